use Rattle.qs_tree.proofs.Common.{◌≡◌, ℕ, ◌+◌, ◌-◌, ◌<◌, ◌≤◌, length, Less, Greater, key_cmp, against, binary_digits}
use Rattle.qs_tree.proofs.tree.map.search.Given as goal

abbrev pub invariant-loop-low : goal.invariant-loop-low
invariant-loop-low g l = record {
  ordered : l.low ≤ l.high;
  within : l.high ≤ length l.entries;
  before : (j : ℕ) → j < l.low → against key_cmp l.key l.entries j ≡ Greater;
  after : (j : ℕ) → l.high ≤ j → j < length l.entries → against key_cmp l.key l.entries j ≡ Less;
  most : l.steps + binary_digits (l.high - l.low) ≤ l.fn.steps + binary_digits (length l.entries);
  first : l.steps ≡ l.fn.steps → l.high ≡ l.low + length l.entries;
  least : l.fn.steps ≤ l.steps;
}

abbrev pub decreases-loop-low : goal.decreases-loop-low
decreases-loop-low g l = l.high - l.low
