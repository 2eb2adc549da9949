-- Inputs for which nothing is allocated.
use Rattle.std.specs.Prelude.{◌≡◌, ℕ, List, [], Option, Some, None, Result, Ok, Err, IsTrue, ◌⊎◌}
use Rattle.qs_spec.specs.Grammar.{is_equals}
use Rattle.qs_tree.specs.declared.scan.cursor.Token as token
use Rattle.qs_tree.specs.declared.scan.cursor.Cursor as cursor
use Rattle.qs_tree.specs.declared.scan.pair.Pair as pair
use Rattle.qs_tree.specs.declared.scan.parser.Item as item
use Rattle.qs_tree.specs.declared.scan.parser.ParseError as parse_error
use Rattle.qs_tree.specs.declared.build.descent.OpenTree.{OpenTree}
use Rattle.qs_tree.specs.internal.build.Descent.{IsFresh, IsWithoutMaps}
use Rattle.qs_tree.specs.Parsing.{is_ampersands, AllocatesNothing}
use Rattle.qs_tree.specs.internal.scan.Cursor.{kind_of_token}
use Rattle.qs_tree.specs.internal.scan.Pairs.{IsRootValue}

-- the token is `=`
abbrev pub IsEqualsStop : Option token.Token → Type 0
IsEqualsStop None = ⊥
IsEqualsStop (Some t) = IsTrue (is_equals (kind_of_token t.kind))

-- an assigned pair with an empty path was parsed, and nothing remains
abbrev pub ParsesRootValue : {A : Type 0} → Result A parse_error.ParseError → cursor.Cursor → pair.Pair → Type 0
ParsesRootValue (Ok a) new p = IsRootValue p × (new.rest.now ≡ [])
ParsesRootValue (Err f) new p = ⊥

-- the end was reached, or an `&` before others, or such a pair was parsed
abbrev pub ParsesUnallocated : Result item.Item parse_error.ParseError → cursor.Cursor → pair.Pair → Type 0
ParsesUnallocated (Ok item.TheVariants.End) new p = Unit {0}
ParsesUnallocated (Ok item.TheVariants.Ampersand) new p = IsTrue (is_ampersands new.rest.now)
ParsesUnallocated (Ok item.TheVariants.Pair) new p = IsRootValue p × (new.rest.now ≡ [])
ParsesUnallocated (Err f) new p = ⊥

-- nothing remains, and the tree isn't a map; or the tree is empty, and such an input remains
abbrev pub StaysUnallocated : List ℕ → OpenTree → Type 0
StaysUnallocated rest tree = ((rest ≡ []) × IsWithoutMaps tree) ⊎ (AllocatesNothing rest × IsFresh tree)
