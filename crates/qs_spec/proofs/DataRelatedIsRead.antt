-- What the relation of reading relates, the function reads.
use Rattle.std.proofs.Common.{◌≡◌, ℕ, Bool, true, false, cond, List, Option, Some, None, refl, sym, ap, ◌∙◌}
use Rattle.std.specs.Option.{option_map, option_and_then}
use Rattle.std.proofs.lemmas.Option.{same_Some}
use Rattle.qs_spec.specs.Segment.{segment_text}
use Rattle.qs_spec.specs.Tree.{Tree, Items, Entries}
use Rattle.qs_spec.specs.Tree.Tree.{leaf, sequence, mapping, uninitialized}
use Rattle.qs_spec.specs.Data.{Data, Values, Pairs, Members}
use Rattle.qs_spec.specs.Shape.{Shape, Shapes, Fields, VariantKind, UnknownKeys, KeyShape, is_option, variant_names_differ, is_distinct_key, field_names_differ, is_distinct, are_distinct, are_distinct_fields, are_distinct_variants, is_distinct_kind}
use Rattle.qs_spec.specs.Node.{keys_are_allowed}
use Rattle.qs_spec.specs.internal.ReadFunction.{read_ignored, read_each, with_front, read_field, with_field, struct_members, read_pairs, read_map, read_enum, any_data, reads, reads_tuple, reads_names, reads_places, reads_kind}
use Rattle.qs_spec.specs.Node.{IsThere}
use Rattle.qs_spec.specs.Relation.{Reads, ReadsEach, ReadsFirst, ReadsPairs, ReadsStruct, ReadsNames, ReadsPlaces, ReadsVariant}
use Rattle.qs_spec.proofs.Booleans.{and_both}
use Rattle.qs_spec.proofs.ReadingParts.{value_list, pair_list, member_list, values_made, pairs_made, members_made, scalar_read, text_read, option_read, list_read}
use Rattle.qs_spec.proofs.VariantNames.{variant_read, unit_variant_read, kind_distinct}
use Rattle.qs_spec.proofs.AnyIsRead.{sequence_of_any, places_of_any, map_of_any}

there_read : (n : Tree) → IsThere n → read_ignored n ≡ Some Data.unit
there_read (leaf l) h = refl
there_read (sequence xs) h = refl
there_read (mapping es) h = refl
there_read uninitialized h = absurd h

mutual
  unfolding reads read_map read_enum struct_members reads_tuple reads_names reads_places reads_kind any_data

  pub sound : (reject_duplicates : Bool) {s : Shape} {n : Tree} {d : Data} → is_distinct s ≡ true → Reads reject_duplicates s n d → reads reject_duplicates s n ≡ Some d
  sound reject_duplicates e Reads.unit_null = refl
  sound reject_duplicates e Reads.unit_no_value = refl
  sound reject_duplicates e Reads.boolean_null = refl
  sound reject_duplicates e Reads.boolean_no_value = refl
  sound reject_duplicates e (Reads.boolean {n} {d} {t} l r) = scalar_read reject_duplicates _ _ n t d l r
  sound reject_duplicates e (Reads.unsigned {bits} {n} {d} {t} l r) = scalar_read reject_duplicates _ _ n t d l r
  sound reject_duplicates e (Reads.signed {bits} {n} {d} {t} l r) = scalar_read reject_duplicates _ _ n t d l r
  sound reject_duplicates e (Reads.character r) = r
  sound reject_duplicates e Reads.text_null = refl
  sound reject_duplicates e Reads.text_no_value = refl
  sound reject_duplicates e (Reads.text {n} {t} l u) = scalar_read reject_duplicates _ _ n t (Data.text t) l (text_read t u)
  sound reject_duplicates e Reads.bytes_null = refl
  sound reject_duplicates e Reads.bytes_no_value = refl
  sound reject_duplicates e (Reads.bytes {n} {t} l) = scalar_read reject_duplicates _ _ n t (Data.bytes t) l refl
  sound reject_duplicates e Reads.option_no_value = refl
  sound reject_duplicates e (Reads.option_null d) = ap (option_map Data.some) (sound reject_duplicates e d)
  sound reject_duplicates e (Reads.option_full {s} {n} {d} f r) = option_read (reads reject_duplicates s) n d f (sound reject_duplicates e r)
  sound reject_duplicates e (Reads.newtype r) = ap (option_map Data.newtype) (sound reject_duplicates e r)
  sound reject_duplicates e (Reads.sequence {s} {n} {xs} {ds} i r) = values_made Data.sequence _ ds (list_read (reads reject_duplicates s) n xs (value_list ds) i (sound_each reject_duplicates e r))
  sound reject_duplicates e (Reads.tuple {ss} {n} {xs} {ds} i r) = values_made Data.tuple _ ds (ap (option_and_then (reads_tuple reject_duplicates ss)) i ∙ sound_first reject_duplicates e r)
  sound reject_duplicates e Reads.map_null = refl
  sound reject_duplicates e Reads.map_no_value = refl
  sound reject_duplicates e (Reads.map_text {k} {s} {ps = ps} r) = pairs_made Data.mapping _ ps (sound_pairs reject_duplicates (and_both (is_distinct_key k) (is_distinct s) e).1 r)
  sound reject_duplicates e (Reads.map {k} {s} {es} {ps} r) = pairs_made Data.mapping _ ps (sound_pairs reject_duplicates (and_both (is_distinct_key k) (is_distinct s) e).1 r)
  sound reject_duplicates e (Reads.struct {u} {fs} {n} {ms} r) = members_made Data.struct _ ms (sound_struct reject_duplicates (and_both (field_names_differ fs) (are_distinct_fields fs) e).1 r)
  sound reject_duplicates e (Reads.unit_variant {vs} {name} h) = unit_variant_read name vs (and_both (variant_names_differ vs) (are_distinct_variants vs) e).0 h
  sound reject_duplicates e (Reads.variant {vs} {kind} {key} {n = n} h r) =
      let p = and_both (variant_names_differ vs) (are_distinct_variants vs) e in
      variant_read reject_duplicates (segment_text key) kind vs n p.0 h ∙ sound_variant reject_duplicates (kind_distinct h p.1) r
  sound reject_duplicates e Reads.any_null = refl
  sound reject_duplicates e Reads.any_no_value = refl
  sound reject_duplicates e (Reads.any_text {t} u) = text_read t u
  sound reject_duplicates e (Reads.any_sequence {xs} r) = sym (sequence_of_any reject_duplicates xs) ∙ sound reject_duplicates refl r
  sound reject_duplicates e (Reads.any_places {es} i r) = sym (places_of_any reject_duplicates es i) ∙ sound reject_duplicates refl r
  sound reject_duplicates e (Reads.any_map {es} i r) = sym (map_of_any reject_duplicates es i) ∙ sound reject_duplicates refl r
  sound reject_duplicates e (Reads.ignored {n} h) = there_read n h

  sound_each : (reject_duplicates : Bool) {s : Shape} {xs : List (Option Tree)} {ds : Values} → is_distinct s ≡ true → ReadsEach reject_duplicates s xs ds → read_each (reads reject_duplicates s) xs ≡ Some (value_list ds)
  sound_each reject_duplicates e ReadsEach.each_end = refl
  sound_each reject_duplicates e (ReadsEach.each_item {s} {n} {xs} {d} {ds} r q) =
      ap (option_and_then (λ y. with_front y (read_each (reads reject_duplicates s) xs))) (sound reject_duplicates e r) ∙ ap (with_front d) (sound_each reject_duplicates e q)

  sound_first : (reject_duplicates : Bool) {ss : Shapes} {xs : List (Option Tree)} {ds : Values} → are_distinct ss ≡ true → ReadsFirst reject_duplicates ss xs ds → reads_tuple reject_duplicates ss xs ≡ Some (value_list ds)
  sound_first reject_duplicates e ReadsFirst.first_end = refl
  sound_first reject_duplicates e (ReadsFirst.first_item {s} {ss} {n} {xs} {d} {ds} r q) =
      let p = and_both (is_distinct s) (are_distinct ss) e in
      ap (option_and_then (λ y. with_front y (reads_tuple reject_duplicates ss xs))) (sound reject_duplicates p.0 r) ∙ ap (with_front d) (sound_first reject_duplicates p.1 q)

  sound_pairs : (reject_duplicates : Bool) {k : KeyShape} {s : Shape} {es : Entries} {ps : Pairs} → is_distinct s ≡ true → ReadsPairs reject_duplicates k s es ps → read_pairs k (reads reject_duplicates s) es ≡ Some (pair_list ps)
  sound_pairs reject_duplicates e ReadsPairs.pairs_end = refl
  sound_pairs reject_duplicates e (ReadsPairs.pairs_more {k} {s} {key} {escaped} {n} {es} {a} {d} {ps} i r q) =
      ap (option_and_then (λ b. option_and_then (λ y. with_front (b, y) (read_pairs k (reads reject_duplicates s) es)) (reads reject_duplicates s n))) i
      ∙ ap (option_and_then (λ y. with_front (a, y) (read_pairs k (reads reject_duplicates s) es))) (sound reject_duplicates e r) ∙ ap (with_front (a, d)) (sound_pairs reject_duplicates e q)

  sound_struct : (reject_duplicates : Bool) {u : UnknownKeys} {fs : Fields} {n : Tree} {ms : Members} → are_distinct_fields fs ≡ true → ReadsStruct reject_duplicates u fs n ms → struct_members (keys_are_allowed u fs) (reads_names reject_duplicates fs) (reads_places reject_duplicates fs) n ≡ Some (member_list ms)
  sound_struct reject_duplicates e (ReadsStruct.fields_of_null r) = sound_names reject_duplicates e r
  sound_struct reject_duplicates e (ReadsStruct.fields_of_no_value r) = sound_names reject_duplicates e r
  sound_struct reject_duplicates e (ReadsStruct.fields_by_name {u} {fs} {es} {ms} k r) =
      ap (option_and_then (λ ys. cond (keys_are_allowed u fs es) (Some ys) None)) (sound_names reject_duplicates e r) ∙ ap (λ b. cond b (Some (member_list ms)) None) k
  sound_struct reject_duplicates e (ReadsStruct.fields_by_place r) = sound_places reject_duplicates e r

  sound_names : (reject_duplicates : Bool) {fs : Fields} {es : Entries} {ms : Members} → are_distinct_fields fs ≡ true → ReadsNames reject_duplicates fs es ms → reads_names reject_duplicates fs es ≡ Some (member_list ms)
  sound_names reject_duplicates e ReadsNames.names_end = refl
  sound_names reject_duplicates e (ReadsNames.name_found {name} {s} {optional} {fs} {es} {n} {d} {ms} i r q) =
      let p = and_both (is_distinct s) (are_distinct_fields fs) e in
      ap (λ ns. option_and_then (λ y. with_field name y (reads_names reject_duplicates fs es)) (read_field optional (is_option s) (reads reject_duplicates s) ns)) i
      ∙ ap (λ z. option_and_then (λ y. with_field name y (reads_names reject_duplicates fs es)) (option_map Some z)) (sound reject_duplicates p.0 r) ∙ ap (with_front (name, d)) (sound_names reject_duplicates p.1 q)
  sound_names reject_duplicates e (ReadsNames.name_left_out {name} {s} {fs} {es} {ms} i q) =
      let p = and_both (is_distinct s) (are_distinct_fields fs) e in
      ap (λ ns. option_and_then (λ y. with_field name y (reads_names reject_duplicates fs es)) (read_field true (is_option s) (reads reject_duplicates s) ns)) i ∙ sound_names reject_duplicates p.1 q
  sound_names reject_duplicates e (ReadsNames.name_as_none {name} {s} {fs} {es} {ms} i q) =
      let p = and_both (is_distinct s) (are_distinct_fields fs) e in
      ap (λ ns. option_and_then (λ y. with_field name y (reads_names reject_duplicates fs es)) (read_field false true (reads reject_duplicates (Shape.option s)) ns)) i ∙ ap (with_front (name, Data.none)) (sound_names reject_duplicates p.1 q)

  sound_places : (reject_duplicates : Bool) {fs : Fields} {xs : Items} {ms : Members} → are_distinct_fields fs ≡ true → ReadsPlaces reject_duplicates fs xs ms → reads_places reject_duplicates fs xs ≡ Some (member_list ms)
  sound_places reject_duplicates e ReadsPlaces.places_end = refl
  sound_places reject_duplicates e (ReadsPlaces.place_found {name} {s} {optional} {fs} {n} {xs} {d} {ms} r q) =
      let p = and_both (is_distinct s) (are_distinct_fields fs) e in
      ap (λ z. option_and_then (λ y. with_field name y (reads_places reject_duplicates fs xs)) (option_map Some z)) (sound reject_duplicates p.0 r) ∙ ap (with_front (name, d)) (sound_places reject_duplicates p.1 q)
  sound_places reject_duplicates e (ReadsPlaces.place_left_out {name} {s} {fs} {ms} q) = sound_places reject_duplicates (and_both (is_distinct s) (are_distinct_fields fs) e).1 q

  sound_variant : (reject_duplicates : Bool) {kind : VariantKind} {name : List ℕ} {n : Tree} {d : Data} → is_distinct_kind kind ≡ true → ReadsVariant reject_duplicates kind name n d → reads_kind reject_duplicates kind name n ≡ Some d
  sound_variant reject_duplicates e ReadsVariant.as_unit = refl
  sound_variant reject_duplicates e (ReadsVariant.as_newtype {name = name} r) = ap (option_map (Data.newtype_variant name)) (sound reject_duplicates e r)
  sound_variant reject_duplicates e (ReadsVariant.as_tuple {ss} {name} {n} {xs} {ds} i r) = values_made (Data.tuple_variant name) _ ds (ap (option_and_then (reads_tuple reject_duplicates ss)) i ∙ sound_first reject_duplicates e r)
  sound_variant reject_duplicates e (ReadsVariant.as_struct {u} {fs} {name} {n} {ms} r) = members_made (Data.struct_variant name) _ ms (sound_struct reject_duplicates (and_both (field_names_differ fs) (are_distinct_fields fs) e).1 r)

pub one_data : (reject_duplicates : Bool) (s : Shape) (n : Tree) (d e : Data) → is_distinct s ≡ true → Reads reject_duplicates s n d → Reads reject_duplicates s n e → d ≡ e
one_data reject_duplicates s n d e h p q = same_Some d e (sym (sound reject_duplicates h p) ∙ sound reject_duplicates h q)
