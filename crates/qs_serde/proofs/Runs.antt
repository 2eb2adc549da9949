-- What the steps of a value gave is what its shape reads.
use Rattle.std.proofs.Common.{◌≡◌, ◌⊎◌, inl, inr, ℕ, suc, ◌+◌, ◌-◌, ◌&&◌, cond, Bool, true, false, List, drop, slice_get, Some, IsSome, refl, sym, ap, subst, ◌∙◌, arith}
use Rattle.std.proofs.lemmas.Option.{none-some}
use Rattle.std.specs.Option.{option_map, option_and_then}
use Rattle.std.specs.Borrow.{Bor}
use Rattle.qs_serde.proofs.ReadNumbers.{signed_of, unsigned_of}
use Rattle.std.proofs.lemmas.Int.{ints}
use Rattle.serde.specs.declared.name.Name.{Name}
use Rattle.serde.specs.declared.format.Kind.TheVariants as kind
use Rattle.qs_spec.specs.Data as d
use Rattle.qs_spec.specs.Shape as s
use Rattle.qs_spec.specs.Leaf.Leaf.{Null}
use Rattle.qs_spec.specs.Node.{keys_are_allowed, sequence_items}
use Rattle.qs_spec.specs.Tree.{Tree, Entries, Items}
use Rattle.qs_spec.specs.Tree.Tree.{leaf}
use Rattle.qs_spec.specs.internal.ReadFunction.{reads, reads_kind, reads_names, reads_places, reads_tuple, struct_members, read_each, read_list, read_map, read_option, read_pairs, with_front}
use Rattle.qs_tree.specs.declared.tree.value.ParsedValue.{ParsedValue}
use Rattle.qs_tree.specs.tree.Views.{tree_of}
use Rattle.qs_data.proofs.lemmas.read.Items.{first_end}
use Rattle.qs_serde.specs.Lookups.{LooksUp}
use Rattle.qs_serde.specs.Nodes.{key_tree, listed, pairs_in}
use Rattle.qs_serde.specs.Places.{count_of, is_tried_part, part_tree, part_view, passed, scalar_at, tree_at}
use Rattle.qs_serde.specs.Runs.{AreNamed, ContentRun, IsDirect, IsLevel, IsReady, ItemsRun, MembersRun, PairsRun, PartsRun, PlacesRun, Run}
use Rattle.qs_serde.specs.Runs.ContentRun.{unit_content, newtype_content, tuple_content, struct_content}
use Rattle.qs_serde.specs.Runs.PlacesRun.{no_place, one_place}
use Rattle.qs_serde.specs.Runs.Run.{unit_run, name_run, variant_run, places_run, boolean_run, signed_run, unsigned_run, character_run, text_run, octets_run, newtype_run, none_run, some_run, sequence_run, mapping_run, struct_run, tuple_run}
use Rattle.qs_serde.specs.Runs.ItemsRun.{no_item, one_item}
use Rattle.qs_serde.specs.Runs.MembersRun.{no_member, one_member, other_member}
use Rattle.qs_serde.specs.Runs.PairsRun.{no_pair, one_pair}
use Rattle.qs_serde.specs.Runs.PartsRun.{no_part, one_part}
use Rattle.qs_serde.specs.Steps.{IsPlain, Moves, field_of, is_whole, kind_of_node, next_field, node_at_part}
use Rattle.qs_serde.specs.Tries.{is_first, is_marked, is_shared, settled, settled_try, tried_after}
use Rattle.qs_serde.specs.declared.reading.frame.FrameKind.TheVariants as k
use Rattle.qs_serde.specs.declared.reading.node.Part.{Part}
use Rattle.qs_serde.specs.declared.reading.node.Part.TheVariants as p
use Rattle.qs_serde.specs.declared.reading.format.TreeFormat.{TreeFormat}
use Rattle.qs_serde.proofs.RunLevels.{either_false, name_untried, untried, counted_some, looked_on, same_field, scalar_same, taken, on, in_tree, first_part, map_level, come_ready, come_tree, after_item, rest_of, one_more, IsLeft, left, left_after, Read, begun_items, item_got, empty_ready, some_full, some_empty}
use Rattle.qs_serde.proofs.RunFields.{after, after_none, utf8_more, entries_in, IsOfStruct, of_struct, pairs_of_struct, struct_here, some_node, FieldsRead, no_fields_read, field_more, other_more, OfMap, of_map_after, entry_due, due, no_entry_due, rest_fields, struct_fields}
use Rattle.qs_serde.proofs.RunEnums.{first_entry, name_read, struct_held, tuple_held, unit_here}
use Rattle.qs_serde.proofs.RunPlaces.{field_first, fields_from, is_listed, item_first, items_from, items_of, listed_items, no_more_fields, place_more, places_here, same_place}
use Rattle.qs_serde.proofs.RunMaps.{after_read, key_at, key_next, key_read, levels, map_entries, map_here, pair_more, pairs_of_map, value_ready, value_tree}

not_whole : (q : Part) → is_tried_part q ≡ false → is_whole q ≡ true → ⊥
not_whole p.Value a b = absurd cc
not_whole p.Held a b = absurd cc
not_whole p.NoValue a b = absurd cc
not_whole p.Key a b = absurd cc
not_whole p.Whole a b = absurd cc
not_whole p.Nothing a b = absurd cc

-- what an enum's first key leads to is read for no variant of an untagged enum
settled_no : (names : List Name) (f : TreeFormat) → f.is_tried ≡ false → (settled names f).is_tried ≡ false
settled_no names f h = either_false (is_first f) (tried_after names f) f.is_tried (either_false (is_marked f.asked && is_shared names) (settled_try f) f.is_tried (untried f h) h) h

held_or_value : (b c : Bool) (q : Part) → b ≡ false → q ≡ cond b p.Whole (cond c p.Held p.Value) → (q ≡ p.Held) ⊎ (q ≡ p.Value)
held_or_value true c q e h = absurd cc
held_or_value false true q e h = inl h
held_or_value false false q e h = inr h

held_tree : (come : TreeFormat) → (come.part ≡ p.Held) ⊎ (come.part ≡ p.Value) → tree_at come ≡ tree_of come.node.now
held_tree come (inl h) = ap (λ q. part_view come q) h
held_tree come (inr h) = ap (λ q. part_view come q) h

held_ready : (old come : TreeFormat) → (come.part ≡ p.Held) ⊎ (come.part ≡ p.Value) → come.is_tried ≡ false → Moves (count_of old) old come → IsReady come
held_ready old come (inr part) tried moves = come_ready old come part tried moves
held_ready old come (inl part) tried moves = record {
  part = λ e. absurd (let n : p.Held ≡ p.NoValue = sym part ∙ e in cc);
  whole = ap is_tried_part part;
  tried = tried;
  outer = inl (counted_some come.frame (count_of old) moves.count);
}

-- the node of a map that has an entry
node_here : (q : Part) (node top : Tree) (at : ℕ) (t : Tree) → (q ≡ p.NoValue → node ≡ leaf Null) → is_tried_part q ≡ false → node_at_part q node ≡ Some node → option_map (λ e. e.1) (slice_get (pairs_in node) 0) ≡ Some t → part_tree q node top at ≡ node
node_here p.Value node top at t null w is value = refl
node_here p.Held node top at t null w is value = refl
node_here p.NoValue node top at t null w is value = absurd (let none = subst (λ n. option_map (λ e. e.1) (slice_get (pairs_in n) 0) ≡ Some t) (null refl) value in none-some _ none)
node_here p.Key node top at t null w is value = absurd (none-some node is)
node_here p.Whole node top at t null w is value = absurd cc
node_here p.Nothing node top at t null w is value = absurd cc

mutual
  unfolding reads read_list read_map struct_members

  pub run_reads : (rd : Bool) (a : s.Shape) (old new : TreeFormat) (x : d.Data) → Run a old x new → old.reader.reject_duplicates ≡ rd → IsDirect old → IsReady old → Read rd a old x new
  run_reads rd a old new x (boolean_run h) e direct ready = (in_tree rd s.Shape.boolean old x ready (subst (λ q. reads q s.Shape.boolean (scalar_at old) ≡ Some x) e h.1), subst (λ f. IsLevel old f) (sym h.0) (taken old _ refl refl refl refl (λ d. d)))
  run_reads rd a old new x (unsigned_run {bits = bits} {m = m} h lt) e direct ready = (
    unsigned_of rd 128 bits (tree_at old) m (λ _. omega (arith, lt)) (in_tree rd (s.Shape.unsigned 128) old x ready (subst (λ q. reads q (s.Shape.unsigned 128) (scalar_at old) ≡ Some x) e (h.1 direct.0))),
    subst (λ f. IsLevel old f) (sym h.0) (taken old _ refl refl refl refl (λ d. d)),
  )
  run_reads rd a old new x (signed_run {bits = bits} {z = z} h low high) e direct ready = (
    signed_of rd 128 bits (tree_at old) z (λ n is _. omega (arith, ints)) (λ n is _. omega (arith, ints)) (in_tree rd (s.Shape.signed 128) old x ready (subst (λ q. reads q (s.Shape.signed 128) (scalar_at old) ≡ Some x) e (h.1 direct.0))),
    subst (λ f. IsLevel old f) (sym h.0) (taken old _ refl refl refl refl (λ d. d)),
  )
  run_reads rd a old new x (character_run h) e direct ready = (in_tree rd s.Shape.character old x ready (subst (λ q. reads q s.Shape.character (scalar_at old) ≡ Some x) e h.1), subst (λ f. IsLevel old f) (sym h.0) (taken old _ refl refl refl refl (λ d. d)))
  run_reads rd a old new x (text_run h) e direct ready = (in_tree rd s.Shape.text old x ready (subst (λ q. reads q s.Shape.text (scalar_at old) ≡ Some x) e h.1), subst (λ f. IsLevel old f) (sym h.0) (taken old _ refl refl refl refl (λ d. d)))
  run_reads rd a old new x (octets_run h) e direct ready = (in_tree rd s.Shape.bytes old x ready (subst (λ q. reads q s.Shape.bytes (scalar_at old) ≡ Some x) e h.1), subst (λ f. IsLevel old f) (sym h.0) (taken old _ refl refl refl refl (λ d. d)))
  run_reads rd a old new x (unit_run held h) e direct ready =
      (unit_here old.part (tree_of old.node.now) (tree_of old.top.now) (count_of old - 1) held ready.whole h.1, subst (λ f. IsLevel old f) (sym h.0) (taken old old refl refl refl refl (λ d. d)))
  run_reads rd a old new x (name_run names at {vs = vs} {looked = looked} {v = v} looks str picks named this unit) e direct ready =
      let look = looked_on old looked looks ready in (
        name_read rd names vs (tree_at old) at v str (subst (λ t. LooksUp t names at) (scalar_same looked.part (tree_at looked) look.1.whole ∙ look.0) picks.0) named this unit,
        levels old looked new look.2 (subst (λ f. IsLevel looked f) (sym picks.1) (taken looked _ refl refl refl refl (λ d. (d.0, name_untried looked d.1)))),
      )
  run_reads rd a old new x (variant_run {vs = vs} {names = names} {looked = looked} {first = first} {come = come} {read = read} {at = at} {v = v} looks str begins comes named this content leaves) e direct ready =
      let look = looked_on old looked looks ready in
      let node = tree_of looked.node.now in
      let begun = on looked first begins.0.keeps (look.2.direct direct) in
      let settled_on : IsDirect (settled names first) = (begun.0, settled_no names first begun.1) in
      let counted : count_of first ≡ 0 = ap passed begins.0.frame in
      let moves : Moves (count_of (settled names first)) (settled names first) come = subst (λ n. Moves n (settled names first) come) (sym counted) comes.moves in
      let top : tree_of first.top.now ≡ node = ap (λ (v : Bor ParsedValue). tree_of v.now) begins.0.top in
      let value = subst (λ t. option_map (λ e. e.1) (slice_get (pairs_in t) 0) ≡ Some (tree_of come.node.now)) top comes.value in
      let is_node = node_here looked.part node (tree_of looked.top.now) (count_of looked - 1) (tree_of come.node.now) look.1.part look.1.whole begins.2 value in
      let held = held_or_value _ _ come.part settled_on.1 comes.part in
      let got = content_read rd v.1 v.0 come read x content (ap (λ r. r.reject_duplicates) (moves.keeps.0 ∙ begins.0.keeps.0) ∙ ap (λ r. r.reject_duplicates) look.2.reader ∙ e) (on (settled names first) come moves.keeps settled_on)
      (held_ready (settled names first) come held (moves.tried ∙ settled_on.1) moves) (held_tree come held) in
      let end = left_after (settled names first) read new (after_item (settled names first) come read moves got.1) (left read new leaves) in (
        ap (reads rd (s.Shape.enumeration vs)) (sym look.0 ∙ is_node)
            ∙ first_entry rd names vs node (tree_of come.node.now) at v x (subst (λ t. kind_of_node t ≡ Some kind.Str → ⊥) (sym look.0 ∙ is_node) str) (subst (λ t. LooksUp (key_tree (slice_get (pairs_in t) 0)) names at) top comes.key) value named this got.0,
        levels old looked new look.2 (map_level looked first new k.Map look.1 begins.0 end.0 end.1 end.2 (λ d. end.3 (d.0, settled_no names first d.1))),
      )
  run_reads rd a old new x (places_run {unknown = unknown} {names = names} {fs = fs} {first = first} {named = ns} begins is named h) e direct ready =
      let node = tree_of old.node.now in
      let listed_at = is_listed old.part old.search.is_short node ready.whole is in
      let top : listed (tree_of first.top.now) ≡ sequence_items (items_of node) = ap (λ (v : Bor ParsedValue). listed (tree_of v.now)) begins.top ∙ listed_items node listed_at in
      let got = places_read rd names fs first new ns (items_of node) h named top (ap (λ r. r.reject_duplicates) begins.keeps.0 ∙ e) (on old first begins.keeps direct) in (
        ap (option_map (λ ms. d.struct (d.members_of ms)))
            (places_here (keys_are_allowed unknown fs) (reads_names rd fs) (reads_places rd fs) old.part old.search.is_short node (tree_of old.top.now) (count_of old - 1) ready.part ready.whole is listed_at
            ∙ subst (λ f. reads_places rd (fields_from (next_field f) fs) (items_from (passed f) (items_of node)) ≡ Some ns) begins.frame got.0),
        map_level old first new k.Places ready begins got.1.0 got.1.1 got.1.2 got.1.3,
      )
  run_reads rd a old new x (newtype_run {a = b} h) e direct ready = let got = run_reads rd b old new _ h e direct ready in (ap (option_map d.newtype) got.0, got.1)
  run_reads rd a old new x (none_run {a = b} is same) e direct ready = (ap (λ t. read_option (reads rd b) t) is, subst (λ f. IsLevel old f) (sym same) (taken old old refl refl refl refl (λ d. d)))
  run_reads rd a old new x (some_run {a = b} {looked = looked} {x = y} (inl (same, inl full)) h) e direct ready =
      let got = run_reads rd b looked new y h (ap (λ (f : TreeFormat). f.reader.reject_duplicates) same ∙ e) (subst IsDirect (sym same) direct) (subst IsReady (sym same) ready) in
      some_full rd b old looked new y same full got
  run_reads rd a old new x (some_run (inl (same, inr text)) h) e direct ready = absurd (not_whole old.part ready.whole text.1)
  run_reads rd a old new x (some_run {a = b} {looked = looked} {x = y} (inr empty) h) e direct ready =
      let got = run_reads rd b looked new y h (ap (λ (f : TreeFormat). f.reader.reject_duplicates) empty.2 ∙ e) (subst IsDirect (sym empty.2) direct) (subst IsReady (sym empty.2) (empty_ready old empty.0 ready)) in
      some_empty rd b old looked new y empty got
  run_reads rd a old new x (sequence_run {a = b} {first = first} {xs = xs} begins h) e direct ready =
      let got = items_read rd b first new xs h (ap (λ r. r.reject_duplicates) begins.0.keeps.0 ∙ e) (on old first begins.0.keeps direct) in (
        ap (λ o. option_map (λ ds. d.sequence (d.values_of ds)) (option_and_then (read_each (reads rd b)) o)) (begun_items old first ready begins.0 begins.1)
            ∙ ap (option_map (λ ds. d.sequence (d.values_of ds))) got.0,
        map_level old first new k.Items ready begins.0 got.1.0 got.1.1 got.1.2 got.1.3,
      )
  run_reads rd a old new x (tuple_run {parts = parts} {first = first} {xs = xs} begins h) e direct ready =
      let got = parts_read rd parts first new xs h (ap (λ r. r.reject_duplicates) begins.0.keeps.0 ∙ e) (on old first begins.0.keeps direct) in (
        ap (λ o. option_map (λ ds. d.tuple (d.values_of ds)) (option_and_then (reads_tuple rd parts) o)) (begun_items old first ready begins.0 begins.1)
            ∙ ap (option_map (λ ds. d.tuple (d.values_of ds))) got.0,
        map_level old first new k.Items ready begins.0 got.1.0 got.1.1 got.1.2 got.1.3,
      )
  run_reads rd a old new x (struct_run {unknown = unknown} {names = names} {fs = fs} {first = first} {ms = ms} {named = ns} begins kind named differ h all) e direct ready =
      let node : IsOfStruct (tree_of old.node.now) = of_struct old.part old.search.is_short (tree_of old.node.now) ready.whole kind in
      let es = entries_in (tree_of old.node.now) in
      let map : OfMap first es = ap (λ (v : Bor ParsedValue). pairs_in (tree_of v.now)) begins.top ∙ pairs_of_struct (tree_of old.node.now) node in
      let got = members_read rd unknown names fs first new ms es h named differ (subst IsSome (sym begins.frame) refl) map (ap (λ r. r.reject_duplicates) begins.keeps.0 ∙ e) (on old first begins.keeps direct) in
      let fields = subst (λ m. FieldsRead rd unknown fs (after m es) ms) (ap passed begins.frame) got.0 in (
        ap (option_map (λ ms. d.struct (d.members_of ms))) (struct_here (keys_are_allowed unknown fs) (reads_names rd fs) (reads_places rd fs) ns old.part (tree_of old.node.now) (tree_of old.top.now) (count_of old - 1)
            ready.part ready.whole (some_node old.part (tree_of old.node.now) old.search.is_short kind) node (struct_fields rd unknown fs es ms ns fields all) (utf8_more _ _ fields.1 fields.2)),
        map_level old first new k.Fields ready begins got.1.0 got.1.1 got.1.2 got.1.3,
      )
  run_reads rd a old new x (mapping_run {key = key} {a = b} {first = first} {ps = ps} begins h) e direct ready =
      let es = map_entries (tree_of old.node.now) in
      let map : OfMap first es = ap (λ (v : Bor ParsedValue). pairs_in (tree_of v.now)) begins.0.top ∙ pairs_of_map (tree_of old.node.now) begins.1 in
      let got = pairs_read rd key b first new ps es h (subst IsSome (sym begins.0.frame) refl) map (ap (λ r. r.reject_duplicates) begins.0.keeps.0 ∙ e) (on old first begins.0.keeps direct) in (
        ap (option_map (λ ps. d.mapping (d.pairs_of ps)))
            (map_here key (reads rd b) old.part (tree_of old.node.now) (tree_of old.top.now) (count_of old - 1) ready.part ready.whole begins.1 begins.2
            ∙ sym (ap (λ f. read_pairs key (reads rd b) (after (passed f) es)) begins.0.frame) ∙ got.0),
        map_level old first new k.Map ready begins.0 got.1.0 got.1.1 got.1.2 got.1.3,
      )

  pairs_read : (rd : Bool) (key : s.KeyShape) (a : s.Shape) (old new : TreeFormat) (ps : List (d.Data × d.Data)) (es : Entries) → PairsRun key a old ps new → IsSome old.frame → OfMap old es
      → old.reader.reject_duplicates ≡ rd → IsDirect old → (read_pairs key (reads rd a) (after (count_of old) es) ≡ Some ps) × IsLeft old new
  pairs_read rd key a old new ps es (no_pair none leaves) open_ map e direct =
      (ap (read_pairs key (reads rd a)) (after_none (count_of old) es (due old es map ∙ no_entry_due old open_ none)), left old new leaves)
  pairs_read rd key a old new ps es (one_pair {come = come} {next = next} {read = read} {k = k} {x = x} {ps = rest} comes part h value more) open_ map e direct =
      let duplicates = ap (λ r. r.reject_duplicates) comes.moves.keeps.0 ∙ e in
      let ordered = on old come comes.moves.keeps direct in
      let mid = key_next key come k next h part ordered.1 in
      let now = mid.2.direct ordered in
      let got = run_reads rd a next read x value (ap (λ r. r.reject_duplicates) mid.2.reader ∙ duplicates) now (value_ready old come next comes.moves mid now.1) in
      let then = after_item old come read comes.moves (levels come next read mid.2 got.1) in
      let others = pairs_read rd key a read new rest es more then.begun (of_map_after old read es then map) (ap (λ r. r.reject_duplicates) then.reader ∙ e) (then.direct direct) in (
        pair_more rd key (reads rd a) es (count_of old) come k x rest (entry_due old) (due old es map) (key_at old come comes.moves part) comes.entry.1
            (λ t is. key_read rd key come k next t h duplicates ordered.0 part is) (ap (reads rd a) (sym (value_tree come next mid)) ∙ got.0) (after_read key (reads rd a) rest old read es then others.0),
        left_after old read new then others.1,
      )

  content_read : (rd : Bool) (held : s.VariantKind) (name : List ℕ) (old new : TreeFormat) (x : d.Data) → ContentRun held name old x new → old.reader.reject_duplicates ≡ rd → IsDirect old → IsReady old → tree_at old ≡ tree_of old.node.now
      → (reads_kind rd held name (tree_of old.node.now) ≡ Some x) × IsLevel old new
  content_read rd held name old new x (unit_content h) e direct ready is = (refl, subst (λ f. IsLevel old f) (sym h.0) (taken old old refl refl refl refl (λ d. d)))
  content_read rd held name old new x (newtype_content {a = a} h) e direct ready is = let got = run_reads rd a old new _ h e direct ready in (ap (option_map (d.newtype_variant name)) (ap (reads rd a) (sym is) ∙ got.0), got.1)
  content_read rd held name old new x (tuple_content {parts = parts} {xs = xs} h) e direct ready is =
      let got = run_reads rd (s.Shape.tuple parts) old new _ h e direct ready in (tuple_held rd parts name (tree_of old.node.now) xs (ap (reads rd (s.Shape.tuple parts)) (sym is) ∙ got.0), got.1)
  content_read rd held name old new x (struct_content {unknown = unknown} {fs = fs} {ms = ms} h) e direct ready is =
      let got = run_reads rd (s.Shape.struct unknown fs) old new _ h e direct ready in (struct_held rd unknown fs name (tree_of old.node.now) ms (ap (reads rd (s.Shape.struct unknown fs)) (sym is) ∙ got.0), got.1)

  places_read : (rd : Bool) (names : List Name) (fs : s.Fields) (old new : TreeFormat) (ns : List d.Named) (xs : Items) → PlacesRun names fs old ns new → AreNamed names fs → listed (tree_of old.top.now) ≡ sequence_items xs → old.reader.reject_duplicates ≡ rd → IsDirect old
      → (reads_places rd (fields_from (field_of old) fs) (items_from (count_of old) xs) ≡ Some ns) × IsLeft old new
  places_read rd names fs old new ns xs (no_place none leaves) named top e direct = (ap (λ gs. reads_places rd gs (items_from (count_of old) xs)) (no_more_fields names fs (field_of old) named none), left old new leaves)
  places_read rd names fs old new ns xs (one_place {come = come} {read = read} {at = at} {f = f} {x = x} {rest = rest} field this h more) named top e direct =
      let comes = field.comes in
      let now = on old come comes.moves.keeps direct in
      let got = item_got rd f.1 old come read x comes direct.1 (run_reads rd f.1 come read x h (ap (λ r. r.reject_duplicates) comes.moves.keeps.0 ∙ e) now (come_ready old come (first_part old.is_tried come.part direct.1 comes.part) now.1 comes.moves)) in
      let level = (run_reads rd f.1 come read x h (ap (λ r. r.reject_duplicates) comes.moves.keeps.0 ∙ e) now (come_ready old come (first_part old.is_tried come.part direct.1 comes.part) now.1 comes.moves)).1 in
      let others = places_read rd names fs read new rest xs more named (ap (λ (v : Bor ParsedValue). listed (tree_of v.now)) got.1.top ∙ top) (ap (λ r. r.reject_duplicates) got.1.reader ∙ e) (got.1.direct direct) in
      let here = same_place names fs (field_of old) at f named field.field this in
      let next : field_of read ≡ suc at = same_field come read (counted_some come.frame (count_of old) comes.moves.count) level ∙ field.next in
      let first = item_first (count_of old) xs (tree_of come.node.now) (rest_of read) (ap (drop (count_of old)) (sym top) ∙ one_more old come read comes got.1) in (
        ap (λ j. reads_places rd (fields_from j fs) (items_from (count_of old) xs)) (sym here) ∙ ap (λ gs. reads_places rd gs (items_from (count_of old) xs)) (field_first at fs f this) ∙ ap (reads_places rd (s.one_field f.0 f.1 f.2 (fields_from (suc at) fs))) first
            ∙ place_more rd (fields_from (suc at) fs) f (tree_of come.node.now) (items_from (count_of old + 1) xs) x rest got.0 (subst (λ j. reads_places rd (fields_from j fs) (items_from (count_of old + 1) xs) ≡ Some rest) next (subst (λ n. reads_places rd (fields_from (field_of read) fs) (items_from n xs) ≡ Some rest) got.1.count others.0)),
        left_after old read new got.1 others.1,
      )

  items_read : (rd : Bool) (a : s.Shape) (old new : TreeFormat) (xs : List d.Data) → ItemsRun a old xs new → old.reader.reject_duplicates ≡ rd → IsDirect old → (read_each (reads rd a) (rest_of old) ≡ Some xs) × IsLeft old new
  items_read rd a old new xs (no_item none leaves) e direct = (ap (read_each (reads rd a)) (first_end (rest_of old) none), left old new leaves)
  items_read rd a old new xs (one_item {come = come} {read = read} {x = y} {xs = ys} comes h rest) e direct =
      let now = on old come comes.moves.keeps direct in
      let got = item_got rd a old come read y comes direct.1 (run_reads rd a come read y h (ap (λ r. r.reject_duplicates) comes.moves.keeps.0 ∙ e) now (come_ready old come (first_part old.is_tried come.part direct.1 comes.part) now.1 comes.moves)) in
      let more = items_read rd a read new ys rest (ap (λ r. r.reject_duplicates) got.1.reader ∙ e) (got.1.direct direct) in (
        ap (read_each (reads rd a)) (one_more old come read comes got.1)
            ∙ ap (λ o. option_and_then (λ z. with_front z (read_each (reads rd a) (rest_of read))) o) got.0
            ∙ ap (λ o. with_front y o) more.0,
        left_after old read new got.1 more.1,
      )

  parts_read : (rd : Bool) (parts : s.Shapes) (old new : TreeFormat) (xs : List d.Data) → PartsRun parts old xs new → old.reader.reject_duplicates ≡ rd → IsDirect old → (reads_tuple rd parts (rest_of old) ≡ Some xs) × IsLeft old new
  parts_read rd parts old new xs (no_part leaves) e direct = (refl, left old new leaves)
  parts_read rd parts old new xs (one_part {a = a} {parts = bs} {come = come} {read = read} {x = y} {xs = ys} comes h rest) e direct =
      let now = on old come comes.moves.keeps direct in
      let got = item_got rd a old come read y comes direct.1 (run_reads rd a come read y h (ap (λ r. r.reject_duplicates) comes.moves.keeps.0 ∙ e) now (come_ready old come (first_part old.is_tried come.part direct.1 comes.part) now.1 comes.moves)) in
      let more = parts_read rd bs read new ys rest (ap (λ r. r.reject_duplicates) got.1.reader ∙ e) (got.1.direct direct) in (
        ap (reads_tuple rd (s.one_shape a bs)) (one_more old come read comes got.1)
            ∙ ap (λ o. option_and_then (λ z. with_front z (reads_tuple rd bs (rest_of read))) o) got.0
            ∙ ap (λ o. with_front y o) more.0,
        left_after old read new got.1 more.1,
      )

  members_read : (rd : Bool) (unknown : s.UnknownKeys) (names : List Name) (fs : s.Fields) (old new : TreeFormat) (ms : List (ℕ × d.Data)) (es : Entries) → MembersRun unknown names fs old ms new → AreNamed names fs → s.field_names_differ fs ≡ true → IsSome old.frame
      → OfMap old es → old.reader.reject_duplicates ≡ rd → IsDirect old → FieldsRead rd unknown fs (after (count_of old) es) ms × IsLeft old new
  members_read rd unknown names fs old new ms es (no_member none leaves) named differ open_ map e direct =
      (no_fields_read rd unknown fs (after (count_of old) es) (after_none (count_of old) es (due old es map ∙ no_entry_due old open_ none)), left old new leaves)
  members_read rd unknown names fs old new ms es (one_member {come = come} {read = read} {at = at} {f = f} {x = x} {ms = rest} comes here h more) named differ open_ map e direct =
      let now = on old come comes.moves.keeps direct in
      let first = first_part old.is_tried come.part direct.1 comes.part in
      let got = run_reads rd f.1 come read x h (ap (λ r. r.reject_duplicates) comes.moves.keeps.0 ∙ e) now (come_ready old come first now.1 comes.moves) in
      let then = after_item old come read comes.moves got.1 in
      let others = members_read rd unknown names fs read new rest es more named differ then.begun (of_map_after old read es then map) (ap (λ r. r.reject_duplicates) then.reader ∙ e) (then.direct direct) in (
        field_more rd unknown names fs named differ es (count_of old) at (tree_of come.node.now) (entry_due old) (due old es map) comes.key comes.value rest (rest_fields rd unknown fs old read es rest then others.0) f x here
            (ap (reads rd f.1) (sym (come_tree come first)) ∙ got.0),
        left_after old read new then others.1,
      )
  members_read rd unknown names fs old new ms es (other_member {come = come} {read = read} {at = at} ignored comes past takes more) named differ open_ map e direct =
      let then = after_item old come read comes.moves (subst (λ f. IsLevel come f) (sym takes) (taken come _ refl refl refl refl (λ d. d))) in
      let others = members_read rd unknown names fs read new ms es more named differ then.begun (of_map_after old read es then map) (ap (λ r. r.reject_duplicates) then.reader ∙ e) (then.direct direct) in (
        other_more rd unknown names fs named differ es (count_of old) at (tree_of come.node.now) (entry_due old) (due old es map) comes.key comes.value ms (rest_fields rd unknown fs old read es ms then others.0) ignored past,
        left_after old read new then others.1,
      )

-- the law
pub exact_run : (a : s.Shape) (old new : TreeFormat) (x : d.Data) → Run a old x new → IsPlain old → IsReady old → reads old.reader.reject_duplicates a (tree_at old) ≡ Some x
exact_run a old new x h plain ready = (run_reads old.reader.reject_duplicates a old new x h refl (plain, ready.tried) ready).0
