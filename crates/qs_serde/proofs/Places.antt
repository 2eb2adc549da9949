-- Where a format is after it moved.
use Rattle.std.proofs.Common.{◌≡◌, ℕ, zero, suc, ◌-◌, ◌<◌, ◌++◌, Bool, true, false, cond, List, [], ◌∷◌, length, take, drop, slice_get, Option, Some, None, option_to_list, refl, sym, ap, subst, ◌∙◌, arith, append-nil}
use Rattle.std.proofs.lemmas.Option.{same_Some}
use Rattle.std.specs.Option.{IsSome, option_map}
use Rattle.std.specs.Borrow.{Bor}
use Rattle.qs_spec.specs.Leaf.Leaf.{NoValue, Null, Text}
use Rattle.qs_spec.specs.Node.{are_ints, is_place, items, placed}
use Rattle.qs_spec.specs.Segment.{ParsedSegment}
use Rattle.qs_spec.specs.Tree.{Tree, Entries}
use Rattle.qs_spec.specs.Tree.Tree.{leaf, sequence, mapping, uninitialized}
use Rattle.qs_tree.specs.declared.tree.value.ParsedValue.{ParsedValue}
use Rattle.qs_tree.specs.tree.Views.{tree_of, entry_list}
use Rattle.qs_data.specs.read.Entries.{node_entries}
use Rattle.qs_data.specs.read.Items.{first_item}
use Rattle.qs_data.proofs.lemmas.read.Items.{place_here, first_none}
use Rattle.qs_serde.specs.Nodes.{listed, pairs_in}
use Rattle.qs_serde.specs.Places.{IsAt, Lead, child_at, count_of, innermost, item_or, kind_of, last_part, opens, part_tree, passed, value_or, whole_part}
use Rattle.qs_serde.specs.Tries.{tried_back}
use Rattle.qs_serde.specs.Steps.{Begins, ComesBack, HasParts, Leaves, Moves}
use Rattle.qs_serde.specs.declared.reading.frame.Frame.{Frame}
use Rattle.qs_serde.specs.declared.reading.frame.Outer.{Outer}
use Rattle.qs_serde.specs.declared.reading.frame.FrameKind.{FrameKind}
use Rattle.qs_serde.specs.declared.reading.frame.FrameKind.TheVariants as k
use Rattle.qs_serde.specs.declared.reading.node.Part.{Part}
use Rattle.qs_serde.specs.declared.reading.node.Part.TheVariants as p
use Rattle.qs_serde.specs.declared.reading.format.TreeFormat.{TreeFormat}
use Rattle.qs_serde.specs.declared.reading.format.Mark.{Mark}

-- a part that comes is the node at its index
no_part : (i : ℕ) (u : Tree) → first_item (drop i []) ≡ Some (Some u) → {A : Type 0} → A
no_part zero u h = absurd cc
no_part (suc i) u h = absurd cc

placed_part : (b : Bool) (t u : Tree) (rest : List (Option Tree)) → first_item (cond b (Some t) None ∷ rest) ≡ Some (Some u) → t ≡ u
placed_part true t u rest h = cc
placed_part false t u rest h = absurd cc

mapped_part : (es : Entries) (i : ℕ) (u : Tree) (o : Option (ParsedSegment × Tree)) → slice_get (entry_list es) i ≡ o → first_item (drop i (placed 0 es)) ≡ Some (Some u) → value_or (mapping es) o ≡ u
mapped_part es i u None e h = absurd (let n : Some None ≡ Some (Some u) = sym (first_none i es e) ∙ h in cc)
mapped_part es i u (Some x) e h = placed_part (is_place i x.0.segment) x.1 u _ (sym (ap first_item (place_here i es x e)) ∙ h)

pub item_child : (t u : Tree) (i : ℕ) → first_item (drop i (listed t)) ≡ Some (Some u) → child_at t i ≡ u
item_child (leaf NoValue) u i h = no_part i u h
item_child (leaf Null) u i h = no_part i u h
item_child (leaf (Text b m)) u zero h = cc
item_child (leaf (Text b m)) u (suc i) h = no_part i u h
item_child (sequence xs) u i h = ap (item_or (sequence xs)) h
item_child (mapping es) u i h = mapped_part es i u (slice_get (entry_list es) i) refl h
item_child uninitialized u i h = no_part i u h

entry_part : (t u : Tree) (o : Option (ParsedSegment × Tree)) → option_map (λ e. e.1) o ≡ Some u → value_or t o ≡ u
entry_part t u (Some x) h = same_Some _ _ h
entry_part t u None h = absurd cc

pub entry_child : (t u : Tree) (i : ℕ) → option_map (λ e. e.1) (slice_get (pairs_in t) i) ≡ Some u → child_at t i ≡ u
entry_child (leaf NoValue) u i h = absurd cc
entry_child (leaf Null) u i h = absurd cc
entry_child (leaf (Text b m)) u zero h = cc
entry_child (leaf (Text b m)) u (suc i) h = absurd cc
entry_child (sequence xs) u i h = absurd cc
entry_child (mapping es) u i h = entry_part (mapping es) u (slice_get (entry_list es) i) h
entry_child uninitialized u i h = absurd cc

-- the node has the items, or the entries, that it is gone over
pub has_items : (t : Tree) (xs : List (Option Tree)) → items t ≡ Some xs → items t ≡ Some (listed t)
has_items (leaf NoValue) xs h = refl
has_items (leaf Null) xs h = refl
has_items (leaf (Text b m)) xs h = refl
has_items (sequence ys) xs h = refl
has_items (mapping es) xs h = same (are_ints es) h where
  same : (b : Bool) → cond b (Some (placed 0 es)) None ≡ Some xs → cond b (Some (placed 0 es)) None ≡ Some (placed 0 es)
  same true h = refl
  same false h = absurd cc
has_items uninitialized xs h = absurd cc

pub has_entries : (t : Tree) (es : Entries) → node_entries t ≡ Some es → option_map entry_list (node_entries t) ≡ Some (pairs_in t)
has_entries (leaf NoValue) es h = refl
has_entries (leaf Null) es h = refl
has_entries (leaf (Text b m)) es h = refl
has_entries (sequence ys) es h = absurd cc
has_entries (mapping fs) es h = refl
has_entries uninitialized es h = absurd cc

pub has_map : (t : Tree) (es : Entries) → node_entries t ≡ Some es → HasParts k.Map t
has_map t es h = has_entries t es h

-- open lists and maps lead to one more, and back
leads_in : (outers : List Outer) (outer : Outer) (t u : Tree) → Lead outers t (tree_of outer.top.now) → u ≡ last_part (tree_of outer.top.now) outer.frame.next → Lead (outers ++ outer ∷ []) t u
leads_in [] outer t u h is = (h, is ∙ ap (λ v. last_part v outer.frame.next) h)
leads_in (o ∷ outers) outer t u h is = (h.0, leads_in outers outer (last_part t o.frame.next) u h.1 is)

leads_out : (outers : List Outer) (outer : Outer) (t u : Tree) → Lead (outers ++ outer ∷ []) t u → Lead outers t (tree_of outer.top.now) × (u ≡ last_part (tree_of outer.top.now) outer.frame.next)
leads_out [] outer t u h = (h.0, h.1 ∙ ap (λ v. last_part v outer.frame.next) (sym h.0))
leads_out (o ∷ outers) outer t u h = let out = leads_out outers outer (last_part t o.frame.next) u h.1 in ((h.0, out.0), out.1)

leads_on : (outers : List Outer) (top : Bor ParsedValue) (frame : Option Frame) (t u : Tree) → Lead outers t (tree_of top.now) → u ≡ last_part (tree_of top.now) (passed frame)
    → Lead (outers ++ option_to_list (innermost top frame)) t u
leads_on outers top None t u h is = subst (λ os. Lead os t u) (sym (append-nil outers)) (subst (λ v. Lead outers t v) (sym is) h)
leads_on outers top (Some frame) t u h is = leads_in outers (record { frame = frame; top = top }) t u h is

lead_alike : (root : Tree) (os ps : List Outer) (top tip : Bor ParsedValue) → ps ≡ os → tip ≡ top → Lead os root (tree_of top.now) → Lead ps root (tree_of tip.now)
lead_alike root os ps top tip outers same h = subst (λ xs. Lead xs root (tree_of tip.now)) (sym outers) (subst (λ (v : Bor ParsedValue). Lead os root (tree_of v.now)) (sym same) h)

-- a list or a map was begun
pub begun : (old new : TreeFormat) (kind : FrameKind) → new.frame ≡ Some (record { kind = kind; next = 0; field = 0 }) → new.around.items ≡ opens old → new.top ≡ old.node → new.node ≡ old.node
    → new.part ≡ old.part → new.reader ≡ old.reader → new.search ≡ old.search → new.is_tried ≡ old.is_tried → Begins old kind new
begun old new kind frame around top node part reader search tried = record {
  frame = frame;
  around = around;
  top = top;
  node = node;
  part = part;
  tried = tried;
  keeps = (reader, search, place, λ h. tried ∙ h);
} where
  place : IsAt old → IsAt new
  place h = (
    (h.0.0, lead_alike h.0.0 (opens old) new.around.items old.node new.top around top (leads_on old.around.items old.top old.frame h.0.0 (tree_of old.node.now) h.0.1 h.1)),
    ap (λ (v : Bor ParsedValue). tree_of v.now) (node ∙ sym top) ∙ ap (λ o. last_part (tree_of new.top.now) (passed o)) (sym frame),
  )

-- at least one is open
some_open : (outers : List Outer) (outer : Outer) → 0 < length (outers ++ outer ∷ [])
some_open [] outer = omega arith
some_open (o ∷ outers) outer = omega arith

-- the innermost list or map was left
pub left : (old new : TreeFormat) (outer : Outer) → old.around.items ≡ new.around.items ++ outer ∷ [] → new.frame ≡ Some outer.frame → new.top ≡ outer.top
    → new.node ≡ old.top → new.reader ≡ old.reader → new.search ≡ old.search → new.is_tried ≡ old.is_tried → Leaves old new
left old new outer around frame top node reader search tried = (
  around ∙ ap (λ f. new.around.items ++ option_to_list (innermost outer.top f)) (sym frame) ∙ ap (λ v. new.around.items ++ option_to_list (innermost v new.frame)) (sym top),
  (λ _. subst (λ os. 0 < length os) (sym around) (some_open new.around.items outer), λ _. subst IsSome (sym frame) refl),
  node,
  (reader, search, place, λ h. tried ∙ h),
) where
  place : IsAt old → IsAt new
  place h = let out = leads_out new.around.items outer h.0.0 (tree_of old.top.now) (subst (λ os. Lead os h.0.0 (tree_of old.top.now)) around h.0.1) in (
    (h.0.0, lead_alike h.0.0 new.around.items new.around.items outer.top new.top refl top out.0),
    ap (λ (v : Bor ParsedValue). tree_of v.now) node ∙ out.1 ∙ ap (λ (v : Bor ParsedValue). last_part (tree_of v.now) outer.frame.next) (sym top)
        ∙ ap (λ o. last_part (tree_of new.top.now) (passed o)) (sym frame),
  )

-- the innermost list or map is gone on in
pub moved : (old new : TreeFormat) (frame : Frame) → kind_of old ≡ Some frame.kind → new.frame ≡ Some (record frame { next = suc frame.next }) → new.around.items ≡ old.around.items
    → new.top ≡ old.top → new.reader ≡ old.reader → new.search ≡ old.search → new.is_tried ≡ old.is_tried → child_at (tree_of old.top.now) frame.next ≡ tree_of new.node.now → Moves frame.next old new
moved old new frame kind last around top reader search tried child = record {
  count = ap passed last;
  kind = ap (option_map (λ (f : Frame). f.kind)) last ∙ sym kind;
  around = around;
  top = top;
  tried = tried;
  keeps = (reader, search, place, λ h. tried ∙ h);
} where
  place : IsAt old → IsAt new
  place h = (
    (h.0.0, lead_alike h.0.0 old.around.items new.around.items old.top new.top around top h.0.1),
    sym child ∙ ap (λ (v : Bor ParsedValue). child_at (tree_of v.now) frame.next) (sym top) ∙ ap (λ o. last_part (tree_of new.top.now) (passed o)) (sym last),
  )

-- the format came back to a mark
same_part : (q : Part) (t top : Tree) (n : ℕ) → part_tree (whole_part q) t top n ≡ part_tree q t top n
same_part p.Value t top n = refl
same_part p.Held t top n = refl
same_part p.NoValue t top n = refl
same_part p.Key t top n = refl
same_part p.Whole t top n = refl
same_part p.Nothing t top n = refl

part_back : (b : Bool) (q : Part) (t top : Tree) (n : ℕ) → part_tree (cond b (whole_part q) q) t top n ≡ part_tree q t top n
part_back true q t top n = same_part q t top n
part_back false q t top n = refl

pub comes_back : (mark : Mark) (old new : TreeFormat) → new.around.items ≡ take mark.depth old.around.items → new.frame ≡ mark.frame → new.top ≡ mark.top → new.node ≡ mark.node
    → new.part ≡ cond (tried_back mark old) (whole_part mark.part) mark.part → new.is_tried ≡ tried_back mark old → new.reader ≡ old.reader → ComesBack mark old new
comes_back mark old new around frame top node part tried reader marked is above = record {
  frame = same_frame;
  around = same_around;
  top = same_top;
  node = same_node;
  part = same_place;
  tried = tried;
  reader = reader ∙ above.1;
  next =
      ap (λ (q : Part). part_tree q (tree_of new.node.now) (tree_of new.top.now) (count_of new - 1)) same_place
      ∙ part_back (tried_back mark old) marked.part (tree_of new.node.now) (tree_of new.top.now) (count_of new - 1)
      ∙ ap (λ (v : Bor ParsedValue). part_tree marked.part (tree_of v.now) (tree_of new.top.now) (count_of new - 1)) same_node
      ∙ ap (λ (v : Bor ParsedValue). part_tree marked.part (tree_of marked.node.now) (tree_of v.now) (count_of new - 1)) same_top
      ∙ ap (λ o. part_tree marked.part (tree_of marked.node.now) (tree_of marked.top.now) (passed o - 1)) same_frame;
  place = place;
} where
  same_place : new.part ≡ cond (tried_back mark old) (whole_part marked.part) marked.part
  same_place = part ∙ ap (λ q. cond (tried_back mark old) (whole_part q) q) is.4

  same_frame : new.frame ≡ marked.frame
  same_frame = frame ∙ is.1

  same_around : new.around.items ≡ marked.around.items
  same_around = around ∙ ap (λ n. take n old.around.items) is.0 ∙ above.0

  same_top : new.top ≡ marked.top
  same_top = top ∙ is.2

  same_node : new.node ≡ marked.node
  same_node = node ∙ is.3

  place : IsAt marked → IsAt new
  place h = (
    (h.0.0, lead_alike h.0.0 marked.around.items new.around.items marked.top new.top same_around same_top h.0.1),
    ap (λ (v : Bor ParsedValue). tree_of v.now) same_node ∙ h.1 ∙ ap (λ (v : Bor ParsedValue). last_part (tree_of v.now) (count_of marked)) (sym same_top)
        ∙ ap (λ o. last_part (tree_of new.top.now) (passed o)) (sym same_frame),
  )
