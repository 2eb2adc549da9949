-- What the shape of bytes reads.
use Rattle.std.proofs.Common.{◌≡◌, ℕ, Bool, true, List, [], Option, Some, None, Result, Ok, Err, refl, sym, ap, subst, ◌∙◌, rules, Vec}
use Rattle.std.proofs.lemmas.Option.{same_Some}
use Rattle.std.specs.Prelude.{⊤, option_and_then, IfErr}
use Rattle.std.specs.Result.{IsErrAnd}
use Rattle.std.specs.declared.alloc.Global.{Global}
use Rattle.qs_spec.specs.Config.{Config}
use Rattle.qs_spec.specs.Data as d
use Rattle.qs_spec.specs.Leaf.Leaf.{NoValue, Null, Text}
use Rattle.qs_spec.specs.Node.{last_item}
use Rattle.qs_spec.specs.Segment.{Segment}
use Rattle.qs_spec.specs.Shape.{Shape, is_distinct}
use Rattle.qs_spec.specs.Tree.{Tree, IsTree}
use Rattle.qs_spec.specs.Tree.Tree.{leaf, sequence, mapping, uninitialized}
use Rattle.qs_spec.specs.internal.ReadFunction.{reads}
use Rattle.qs_tree.specs.declared.error.Error.{Error}
use Rattle.qs_tree.specs.declared.error.Error.TheVariants as error
use Rattle.qs_data.specs.data.Views.{data_of, data_layer}
use Rattle.qs_data.specs.declared.data.data.Data as r
use Rattle.qs_data.specs.declared.data.data.Data.{Data, out-Data, roll-Data}
use Rattle.qs_data.specs.declared.data.data.Data.TheFolds.{map-Data}
use Rattle.qs_data.specs.declared.data.data.Data.TheOpen.{Data-F}
use Rattle.qs_data.specs.read.Errors.{OnlyCustomUtf8OrOutOfMemory}
use Rattle.qs_data.specs.read.Parsed.{ReturnsData}
use Rattle.qs_c.specs.Errors.{kind_of, position_of}
use Rattle.qs_c.specs.Paths.{node_at, LeadsTo, WhyNoBytes}

-- bytes of the definitions
abbrev AreBytes : d.Data → Type 0
AreBytes (d.bytes bytes) = ⊤
AreBytes _ = ⊥

-- they are what is read
some_bytes : (text : Option (List ℕ)) (x : d.Data) → option_and_then (λ bytes. Some (d.bytes bytes)) text ≡ Some x → AreBytes x
some_bytes None x h = absurd cc
some_bytes (Some bytes) x h = subst AreBytes (same_Some (d.bytes bytes) x h) tt

are_bytes : (reject_duplicates : Bool) (t : Tree) (x : d.Data) → reads reject_duplicates Shape.bytes t ≡ Some x → AreBytes x
unfolding reads
are_bytes reject_duplicates (leaf NoValue) x h = subst AreBytes (same_Some (d.bytes []) x h) tt
are_bytes reject_duplicates (leaf Null) x h = subst AreBytes (same_Some (d.bytes []) x h) tt
are_bytes reject_duplicates (leaf (Text bytes escaped)) x h = subst AreBytes (same_Some (d.bytes bytes) x h) tt
are_bytes reject_duplicates (sequence xs) x h = some_bytes (last_item reject_duplicates xs) x h
are_bytes reject_duplicates (mapping es) x h = absurd cc
are_bytes reject_duplicates uninitialized x h = absurd cc

-- no other variant of the code is seen as bytes
no_other_layer : (y : Data-F Data) → AreBytes (data_layer (map-Data Data d.Data data_of y)) → ((v : Vec ℕ Global) → y ≡ Data-F.Bytes v → ⊥) → ⊥
no_other_layer (Data-F.Bytes v) are not = not v refl
no_other_layer Data-F.Unit are not = are
no_other_layer Data-F.None are not = are
no_other_layer (Data-F.Some x) are not = are
no_other_layer (Data-F.Bool b) are not = are
no_other_layer (Data-F.Unsigned n) are not = are
no_other_layer (Data-F.Signed n) are not = are
no_other_layer (Data-F.Char c) are not = are
no_other_layer (Data-F.Text text) are not = are
no_other_layer (Data-F.Seq xs) are not = are
no_other_layer (Data-F.Tuple xs) are not = are
no_other_layer (Data-F.Map ps) are not = are
no_other_layer (Data-F.Struct ms) are not = are
no_other_layer (Data-F.Newtype x) are not = are
no_other_layer (Data-F.UnitVariant name) are not = are
no_other_layer (Data-F.NewtypeVariant name x) are not = are
no_other_layer (Data-F.TupleVariant name xs) are not = are
no_other_layer (Data-F.StructVariant name ms) are not = are

no_other : (x : Data) → AreBytes (data_of x) → ((v : Vec ℕ Global) → x ≡ r.Bytes v → ⊥) → ⊥
no_other x are not =
    let seen : data_of x ≡ data_layer (map-Data Data d.Data data_of (out-Data x)) = search (rules, r.the_lemmas) in
    let rolled : roll-Data (out-Data x) ≡ x = search (rules, r.the_lemmas) in
    no_other_layer (out-Data x) (subst AreBytes seen are) (λ v is.
    let named : roll-Data (Data-F.Bytes v) ≡ r.Bytes v = search (rules, r.the_lemmas) in
    not v (sym rolled ∙ ap roll-Data is ∙ named))

-- where it reads nothing from the node to which the path leads
module _ (config : Config) (path : List Segment) (input : List ℕ) (tree : Tree) (is_tree : IsTree config.is_form config.max_depth input tree) (node : Tree) (leads : node_at path tree ≡ Some node) where
  leads_there : LeadsTo config path input (Some node)
  leads_there = record {
    tree = tree;
    is_tree = is_tree;
    is_node = leads;
  }

  why : (e : Error) → ReturnsData (record { config = config; tree = node }) Shape.bytes (Err e) → OnlyCustomUtf8OrOutOfMemory {X = r.Data} (Err e) → WhyNoBytes (kind_of e) (position_of e) config path input
  why (error.Custom message) none only = (refl, (node, leads_there, none))
  why (error.Utf8 cause) none only = (refl, (node, leads_there, none.0))
  why error.OutOfMemory none only = refl
  why (error.Parse message position) none only = absurd only
  why (error.MaxSerializationDepthExceeded depth) none only = absurd only
  why error.Unsupported none only = absurd only
  why (error.FromUtf8 cause) none only = absurd only
  why (error.Io cause) none only = absurd only
  why (error.ParseInt cause) none only = absurd only
  why error.Failed none only = absurd only

  pub unheld : {A : Type 0} (result : Result A Error) (e : Error) (s : Shape) → s ≡ Shape.bytes → IsErrAnd result (λ x. x ≡ e)
      → (is_distinct s ≡ true → ReturnsData (record { config = config; tree = node }) s (Err e)) → OnlyCustomUtf8OrOutOfMemory {X = r.Data} (Err e)
      → IfErr result (λ x. WhyNoBytes (kind_of x) (position_of x) config path input)
  unheld (Ok a) e s bytes is none only = absurd is
  unheld (Err x) e s bytes is none only =
      let distinct : is_distinct s ≡ true = ap is_distinct bytes in
      let no_bytes : ReturnsData (record { config = config; tree = node }) Shape.bytes (Err e) = subst (λ s. ReturnsData (record { config = config; tree = node }) s (Err e)) bytes (none distinct) in
      subst (λ y. WhyNoBytes (kind_of y) (position_of y) config path input) (sym is) (why e no_bytes only)

-- nothing else is read
pub never : (reject_duplicates : Bool) (s : Shape) (t : Tree) (x : r.Data) → s ≡ Shape.bytes → reads reject_duplicates s t ≡ Some (data_of x) → ((v : Vec ℕ Global) → x ≡ r.Bytes v → ⊥) → ⊥
never reject_duplicates s t x bytes h not =
    no_other x (are_bytes reject_duplicates t (data_of x) (subst (λ s. reads reject_duplicates s t ≡ Some (data_of x)) bytes h)) not
