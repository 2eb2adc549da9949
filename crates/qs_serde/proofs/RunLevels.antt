-- Where a format is while a value is read: the open lists and maps, and the item that is next.
use Rattle.std.proofs.Common.{◌≡◌, ◌⊎◌, ◌↔◌, inl, inr, ℕ, suc, ◌+◌, ◌-◌, ◌<◌, ◌&&◌, ◌++◌, cond, Bool, true, false, List, [], ◌∷◌, length, drop, Option, Some, None, IsSome, option_to_list, refl, sym, ap, subst, ◌∙◌, arith}
use Rattle.std.specs.Option.{option_map, option_and_then}
use Rattle.std.specs.Borrow.{Bor}
use Rattle.qs_spec.specs.Data as d
use Rattle.qs_spec.specs.Shape as s
use Rattle.qs_spec.specs.Leaf.Leaf.{NoValue, Null, Text}
use Rattle.qs_spec.specs.Node.{IsFull, items}
use Rattle.qs_spec.specs.Segment.{ParsedSegment}
use Rattle.qs_spec.specs.Tree.{Tree}
use Rattle.qs_spec.specs.Tree.Tree.{leaf, sequence, mapping, uninitialized}
use Rattle.qs_spec.specs.internal.ReadFunction.{Reader, reads, read_option}
use Rattle.qs_tree.specs.declared.tree.value.ParsedValue.{ParsedValue}
use Rattle.qs_tree.specs.tree.Views.{tree_of}
use Rattle.qs_data.proofs.lemmas.read.Items.{first_some}
use Rattle.qs_serde.specs.Nodes.{key_tree, listed}
use Rattle.qs_serde.specs.Places.{count_of, innermost, is_tried_part, opens, part_tree, part_view, passed, scalar_at, scalar_of, tree_at, value_part}
use Rattle.qs_serde.specs.Runs.{IsDirect, IsLevel, IsReady}
use Rattle.qs_serde.specs.Steps.{Begins, Comes, Empties, Keeps, Leaves, Looks, Moves, field_of, is_whole, items_at, next_field, next_items, node_at_part}
use Rattle.qs_serde.specs.Tries.{asks_content, settled_try, tried_at_name}
use Rattle.qs_serde.specs.declared.reading.frame.Frame.{Frame}
use Rattle.qs_serde.specs.declared.reading.frame.Outer.{Outer}
use Rattle.qs_serde.specs.declared.reading.frame.FrameKind.{FrameKind}
use Rattle.qs_serde.specs.declared.reading.frame.FrameKind.TheVariants as k
use Rattle.qs_serde.specs.declared.reading.node.Part.{Part}
use Rattle.qs_serde.specs.declared.reading.node.Part.TheVariants as p
use Rattle.qs_serde.specs.declared.reading.format.TreeFormat.{TreeFormat}

-- the innermost of the open lists and maps
pub no_nil : {A : Type 0} (ys : List A) (y : A) → [] ≡ ys ++ y ∷ [] → ⊥
no_nil [] y h = absurd cc
no_nil (z ∷ ys) y h = absurd cc

pub snoc_same : {A : Type 0} (xs ys : List A) (x y : A) → xs ++ x ∷ [] ≡ ys ++ y ∷ [] → (xs ≡ ys) × (x ≡ y)
snoc_same [] [] x y h = (refl, cc)
snoc_same [] (b ∷ ys) x y h = absurd (let e : [] ≡ ys ++ y ∷ [] = cc in no_nil ys y e)
snoc_same (a ∷ xs) [] x y h = absurd (let e : [] ≡ xs ++ x ∷ [] = cc in no_nil xs x e)
snoc_same (a ∷ xs) (b ∷ ys) x y h =
    let front : a ≡ b = cc in
    let rest : xs ++ x ∷ [] ≡ ys ++ y ∷ [] = cc in
    let both = snoc_same xs ys x y rest in
    (ap (λ z. z ∷ xs) front ∙ ap (λ zs. b ∷ zs) both.0, both.1)

pub same_open : (os ps : List Outer) (t u : Bor ParsedValue) (a b : Option Frame) → os ++ option_to_list (innermost t a) ≡ ps ++ option_to_list (innermost u b) → IsSome a → IsSome b → (os ≡ ps) × (a ≡ b) × (t ≡ u)
same_open os ps t u (Some a) (Some b) e x y =
    let both = snoc_same os ps (record { frame = a; top = t }) (record { frame = b; top = u }) e in
    (both.0, ap (λ (o : Outer). Some o.frame) both.1, ap (λ (o : Outer). o.top) both.1)
same_open os ps t u None b e x y = absurd cc
same_open os ps t u (Some a) None e x y = absurd cc

pub some_open : (outers : List Outer) (outer : Outer) → 0 < length (outers ++ outer ∷ [])
some_open [] outer = omega arith
some_open (o ∷ outers) outer = omega arith

pub none_more : 0 < length {A = Outer} [] → ⊥
none_more h = omega (h, arith)

-- something is open exactly if the innermost is
pub open_if : (os : List Outer) (t : Bor ParsedValue) (a : Option Frame) → IsSome a ⊎ (os ≡ []) → (0 < length (os ++ option_to_list (innermost t a))) ↔ IsSome a
open_if os t (Some a) h = (λ _. refl, λ _. some_open os (record { frame = a; top = t }))
open_if os t None (inl h) = absurd cc
open_if os t None (inr h) = (λ more. absurd (none_more (subst (λ (xs : List Outer). 0 < length (xs ++ [])) h more)), λ some. absurd cc)

pub counted_some : (a : Option Frame) (n : ℕ) → passed a ≡ suc n → IsSome a
counted_some (Some a) n h = refl
counted_some None n h = absurd cc

-- the tree is read as it is after a step, too
pub on : (old new : TreeFormat) → Keeps old new → IsDirect old → IsDirect new
on old new h d = (ap (λ x. x.in_order) h.1 ∙ d.0, h.3 d.1)

-- what is next, as a scalar reads it
pub scalar_same : (q : Part) (t : Tree) → is_tried_part q ≡ false → scalar_of q t ≡ t
scalar_same p.Value t h = refl
scalar_same p.Held t h = refl
scalar_same p.NoValue t h = refl
scalar_same p.Key t h = refl
scalar_same p.Whole t h = absurd cc
scalar_same p.Nothing t h = absurd cc

pub in_tree : (rd : Bool) (a : s.Shape) (old : TreeFormat) (x : d.Data) → IsReady old → reads rd a (scalar_at old) ≡ Some x → reads rd a (tree_at old) ≡ Some x
in_tree rd a old x ready h = subst (λ t. reads rd a t ≡ Some x) (scalar_same old.part (tree_at old) ready.whole) h

-- the part that is read first
pub first_part : (b : Bool) (q : Part) → b ≡ false → q ≡ value_part b → q ≡ p.Value
first_part false q e h = h
first_part true q e h = absurd cc

-- a value that is next, as a list and in an option
pub items_here : (q : Part) (node top : Tree) (at : ℕ) → (q ≡ p.NoValue → node ≡ leaf Null) → is_tried_part q ≡ false → option_and_then (items_at (is_whole q)) (node_at_part q node) ≡ Some (listed node)
    → items (part_tree q node top at) ≡ Some (listed node)
items_here p.Value node top at e t h = h
items_here p.Held node top at e t h = h
items_here p.NoValue node top at e t h = ap (λ t. Some (listed t)) (sym (e refl))
items_here p.Key node top at e t h = absurd cc
items_here p.Whole node top at e t h = absurd cc
items_here p.Nothing node top at e t h = absurd cc

pub option_full : (r : Reader) (t : Tree) → IsFull t → read_option r t ≡ option_map d.some (r t)
option_full r (leaf NoValue) h = absurd h
option_full r (leaf Null) h = absurd h
option_full r (leaf (Text b m)) h = refl
option_full r (sequence xs) h = refl
option_full r (mapping es) h = refl
option_full r uninitialized h = absurd h

pub text_key : (o : Option (ParsedSegment × Tree)) → key_tree o ≡ leaf Null → ⊥
text_key None h = absurd cc
text_key (Some e) h = absurd cc

pub empty_node : (q : Part) (node top : Tree) (at : ℕ) → part_tree q node top at ≡ leaf Null → node ≡ leaf Null
empty_node p.Value node top at h = h
empty_node p.Held node top at h = h
empty_node p.NoValue node top at h = absurd cc
empty_node p.Key node top at h = absurd (text_key _ h)
empty_node p.Whole node top at h = h
empty_node p.Nothing node top at h = absurd cc

-- what is taken keeps the level
pub taken : (old new : TreeFormat) → new.frame ≡ old.frame → new.around.items ≡ old.around.items → new.top ≡ old.top → new.reader ≡ old.reader → (IsDirect old → IsDirect new) → IsLevel old new
taken old new frame around top reader direct = record {
  opened = ap (λ os. os ++ option_to_list (innermost new.top new.frame)) around ∙ ap (λ t. old.around.items ++ option_to_list (innermost t new.frame)) top
      ∙ ap (λ f. old.around.items ++ option_to_list (innermost old.top f)) frame;
  open_as = (subst IsSome frame, subst IsSome (sym frame));
  reader = reader;
  direct = direct;
}

-- a list that was begun and left
pub map_level : (old first new : TreeFormat) (kind : FrameKind) → IsReady old → Begins old kind first → first.around.items ≡ opens new → IsSome new.frame ↔ (0 < length first.around.items) → new.reader ≡ first.reader
    → (IsDirect first → IsDirect new) → IsLevel old new
map_level old first new kind ready begins left shown reader direct =
    let some = open_if old.around.items old.top old.frame ready.outer in record {
      opened = sym left ∙ begins.around;
      open_as = (λ h. some.0 (subst (λ os. 0 < length os) begins.around (shown.0 h)), λ h. shown.1 (subst (λ os. 0 < length os) (sym begins.around) (some.1 h)));
      reader = reader ∙ begins.keeps.0;
      direct = λ h. direct (on old first begins.keeps h);
    }

-- an item that came may be read, and was read
pub come_ready : (old come : TreeFormat) → come.part ≡ p.Value → come.is_tried ≡ false → Moves (count_of old) old come → IsReady come
come_ready old come part tried moves = record {
  part = λ e. absurd (let n : p.Value ≡ p.NoValue = sym part ∙ e in cc);
  whole = ap is_tried_part part;
  tried = tried;
  outer = inl (counted_some come.frame (count_of old) moves.count);
}

pub come_tree : (come : TreeFormat) → come.part ≡ p.Value → tree_at come ≡ tree_of come.node.now
come_tree come h = ap (λ q. part_view come q) h

pub record AfterItem (old read : TreeFormat) : Type 0 where
  pub around : read.around.items ≡ old.around.items
  pub count : count_of read ≡ count_of old + 1
  pub top : read.top ≡ old.top
  pub begun : IsSome read.frame
  pub reader : read.reader ≡ old.reader
  pub direct : IsDirect old → IsDirect read

pub after_item : (old come read : TreeFormat) → Moves (count_of old) old come → IsLevel come read → AfterItem old read
after_item old come read moves l =
    let some = counted_some come.frame (count_of old) moves.count in
    let is = l.open_as.1 some in
    let same = same_open read.around.items come.around.items read.top come.top read.frame come.frame l.opened is some in
    let one : suc (count_of old) ≡ count_of old + 1 = omega arith in record {
      around = same.0 ∙ moves.around;
      count = ap passed same.1 ∙ moves.count ∙ one;
      top = same.2 ∙ moves.top;
      begun = is;
      reader = l.reader ∙ moves.keeps.0;
      direct = λ h. l.direct (on old come moves.keeps h);
    }

pub same_field : (come read : TreeFormat) → IsSome come.frame → IsLevel come read → field_of read ≡ field_of come
same_field come read some l = ap next_field (same_open read.around.items come.around.items read.top come.top read.frame come.frame l.opened (l.open_as.1 some) some).1

-- where no variant of an untagged enum is tried, none is after a mark that wasn't one's, either
pub untried : (f : TreeFormat) → f.is_tried ≡ false → settled_try f ≡ false
untried f h = go f.was_tried refl where
  both : (b c : Bool) → b ≡ false → (b && c) ≡ false
  both true c h = absurd cc
  both false c h = refl

  go : (o : Option Bool) → f.was_tried ≡ o → settled_try f ≡ false
  go None e = rw e h
  go (Some b) e = rw e (both f.is_tried b h)

pub either_false : (b t u : Bool) → t ≡ false → u ≡ false → cond b t u ≡ false
either_false true t u h g = h
either_false false t u h g = g

pub name_untried : (f : TreeFormat) → f.is_tried ≡ false → tried_at_name f ≡ false
name_untried f h = either_false (asks_content f.asked) (settled_try f) f.is_tried (untried f h) h

-- a look at the kind of what is next leaves it
pub looked_on : (old looked : TreeFormat) → Looks old looked → IsReady old → (tree_at looked ≡ tree_at old) × IsReady looked × IsLevel old looked
looked_on old looked (inl same) ready = subst (λ f. (tree_at f ≡ tree_at old) × IsReady f × IsLevel old f) (sym same) (refl, ready, taken old old refl refl refl refl (λ d. d))
looked_on old looked (inr same) ready =
    subst (λ f. (tree_at f ≡ tree_at old) × IsReady f × IsLevel old f) (sym same) (
      refl,
      record { part = ready.part; whole = ready.whole; tried = ready.tried; outer = ready.outer },
      taken old _ refl refl refl refl (λ d. d),
    )

-- the items from here on
abbrev pub rest_of : TreeFormat → List (Option Tree)
rest_of f = drop (count_of f) (listed (tree_of f.top.now))

pub rest_after : (old read : TreeFormat) → AfterItem old read → drop (count_of old + 1) (listed (tree_of old.top.now)) ≡ rest_of read
rest_after old read a = ap (λ m. drop m (listed (tree_of old.top.now))) (sym a.count) ∙ ap (λ (v : Bor ParsedValue). drop (count_of read) (listed (tree_of v.now))) (sym a.top)

pub one_more : (old come read : TreeFormat) → Comes old come → AfterItem old read → rest_of old ≡ Some (tree_of come.node.now) ∷ rest_of read
one_more old come read h a = first_some (listed (tree_of old.top.now)) (count_of old) (tree_of come.node.now) h.item ∙ ap (λ ys. Some (tree_of come.node.now) ∷ ys) (rest_after old read a)

-- the list was left
abbrev pub IsLeft : TreeFormat → TreeFormat → Type 0
IsLeft old new = (old.around.items ≡ opens new) × (IsSome new.frame ↔ (0 < length old.around.items)) × (new.reader ≡ old.reader) × (IsDirect old → IsDirect new)

pub left : (old new : TreeFormat) → Leaves old new → IsLeft old new
left old new h = (h.0, h.1, h.3.0, λ d. on old new h.3 d)

pub left_after : (old read new : TreeFormat) → AfterItem old read → IsLeft read new → IsLeft old new
left_after old read new a h = (
  sym a.around ∙ h.0,
  (λ x. subst (λ os. 0 < length os) a.around (h.1.0 x), λ x. h.1.1 (subst (λ os. 0 < length os) (sym a.around) x)),
  h.2 ∙ a.reader,
  λ d. h.3 (a.direct d),
)

abbrev pub Read : Bool → s.Shape → TreeFormat → d.Data → TreeFormat → Type 0
Read rd a old x new = (reads rd a (tree_at old) ≡ Some x) × IsLevel old new

pub begun_items : (old first : TreeFormat) → IsReady old → Begins old k.Items first → next_items old ≡ Some (listed (tree_of old.node.now)) → items (tree_at old) ≡ Some (rest_of first)
begun_items old first ready begins h =
    items_here old.part (tree_of old.node.now) (tree_of old.top.now) (count_of old - 1) ready.part ready.whole h
    ∙ ap (λ (v : Bor ParsedValue). Some (listed (tree_of v.now))) (sym begins.top)
    ∙ ap (λ f. Some (drop (passed f) (listed (tree_of first.top.now)))) (sym begins.frame)

pub item_got : (rd : Bool) (a : s.Shape) (old come read : TreeFormat) (x : d.Data) → Comes old come → old.is_tried ≡ false → Read rd a come x read → (reads rd a (tree_of come.node.now) ≡ Some x) × AfterItem old read
item_got rd a old come read x comes tried got = (ap (reads rd a) (sym (come_tree come (first_part old.is_tried come.part tried comes.part))) ∙ got.0, after_item old come read comes.moves got.1)

pub empty_ready : (old : TreeFormat) → tree_at old ≡ leaf Null → IsReady old → IsReady (record old { part = p.NoValue })
empty_ready old null ready = record { part = λ _. empty_node old.part (tree_of old.node.now) (tree_of old.top.now) (count_of old - 1) null; whole = refl; tried = ready.tried; outer = ready.outer }

pub some_full : (rd : Bool) (b : s.Shape) (old looked new : TreeFormat) (x : d.Data) → looked ≡ old → IsFull (tree_at old) → Read rd b looked x new → Read rd (s.Shape.option b) old (d.some x) new
unfolding reads
some_full rd b old looked new x same full given =
    let got = subst (λ f. Read rd b f x new) same given in
    (option_full (reads rd b) (tree_at old) full ∙ ap (option_map d.some) got.0, got.1)

pub some_empty : (rd : Bool) (b : s.Shape) (old looked new : TreeFormat) (x : d.Data) → Empties old looked → Read rd b looked x new → Read rd (s.Shape.option b) old (d.some x) new
unfolding reads
some_empty rd b old looked new x (null, whole, same) given =
    let got = subst (λ f. Read rd b f x new) same given in
    (ap (λ t. read_option (reads rd b) t) null ∙ ap (option_map d.some) got.0, record { opened = got.1.opened; open_as = got.1.open_as; reader = got.1.reader; direct = got.1.direct })
