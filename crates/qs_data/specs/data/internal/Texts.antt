-- Sets of texts.
use Rattle.std.specs.Prelude.{ℕ, Bool, List}
use Rattle.std.specs.List.{list_any}
use Rattle.std.specs.Str.{bytes_eq}
use Rattle.std.specs.BTreeSet.{BTreeSet}
use Rattle.std.specs.declared.vec.Vec.{Vec}
use Rattle.std.specs.declared.alloc.Global.{Global}

-- one of the texts in the set is this one
abbrev pub holds_text : BTreeSet (Vec ℕ Global) → List ℕ → Bool
holds_text texts t = list_any (λ u. bytes_eq u.items t) texts.keys
