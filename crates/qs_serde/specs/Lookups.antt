-- Looking up a text among names, and what data is made of.
use Rattle.std.specs.Prelude.{◌≡◌, true, ℕ, List, [], Option, Some, None, MatchOption}
use Rattle.std.specs.Str.{is_utf8}
use Rattle.qs_spec.specs.Data.{Data}
use Rattle.qs_spec.specs.Leaf.Leaf.{Null, Text}
use Rattle.qs_spec.specs.Tree.{Tree}
use Rattle.qs_spec.specs.Tree.Tree.{leaf}
use Rattle.serde.specs.Names.{Finds}
use Rattle.serde.specs.declared.name.Name.{Name}

-- the text of a leaf, which an empty value has too
abbrev pub only_text : Tree → Option (List ℕ)
only_text (leaf (Text t mark)) = Some t
only_text (leaf Null) = Some []
only_text _ = None

-- what serde's `find` returns for a text
unfoldable pub FindsText : List Name → List ℕ → ℕ → Type 0
FindsText names key at = Finds names key at

-- this text, or the text of this key, is UTF-8 and was looked up among names
abbrev pub LooksUp : Tree → List Name → ℕ → Type 0
LooksUp t names at = MatchOption (only_text t) ⊥ (λ key. FindsText names key at × (is_utf8 key ≡ true))

-- what data is made of by this constructor, if it is made by it
abbrev pub IsMade : {X : Type 0} → (X → Data) → Data → Option X → Type 0
IsMade make x None = (v : _) → ¬ (x ≡ make v)
IsMade make x (Some v) = x ≡ make v
