use Rattle.std.proofs.Common.{ℕ, ◌<◌, List, length, Option, Some, None, slice_get, ◌≡◌, All, sym, subst, ◌∙◌}
use Rattle.std.proofs.lemmas.Iterator.Adapters.{option_map_id}
use Rattle.std.proofs.lemmas.Iterator.Consumers.{nth_from_yields_List, YieldsList-from_first}
use Rattle.std.proofs.lemmas.List.Elements.{All-get_or}
use Rattle.std.proofs.lemmas.Option.{slice_get_within, get_or_from_slice_get}
use Rattle.std.specs.Option.{IfSome}
use Rattle.memchr.proofs.lemmas.CallerLemmas.{All-places}
use Rattle.memchr.specs.Find.{Passes, is_byte, places}
use Rattle.serde_qs.proofs.limits.nth_separator.Goals as goal

-- what holds of all elements holds of the one at an index
at_index : (P : ℕ → Type 0) (xs : List ℕ) (i : ℕ) (r : Option ℕ) → r ≡ slice_get xs i → All P xs → IfSome r P
at_index P xs i None is each = tt
at_index P xs i (Some x) is each = subst P (get_or_from_slice_get xs i x 0 (sym is)) (All-get_or P xs i 0 (slice_get_within xs i x (sym is)) each)

value : goal.returns-clause-value
value c = sym (option_map_id c.nth.result)
    ∙ nth_from_yields_List c.nth.result c.nth.new.self c.args.n c.nth.ensures.ran (YieldsList-from_first (λ x. x) (λ rest. rest) _ c.memchr_iter.ensures.value)

inside : (r : Option ℕ) (hay : List ℕ) → IfSome r (λ k. (k < length hay) × Passes (is_byte 38) hay k) → IfSome r (λ k. k < length hay)
inside None hay h = tt
inside (Some k) hay h = h.0

pub returns-clause-value : goal.returns-clause-value
returns-clause-value c = value c

pub returns-clause-within : goal.returns-clause-within
returns-clause-within c = inside c.nth.result c.args.input.now (at_index _ (places (is_byte 38) c.args.input.now) c.args.n c.nth.result (value c) (All-places (is_byte 38) c.args.input.now))
