-- The parts of values that write themselves.
use Rattle.std.proofs.Common.{◌≡◌, ℕ, ◌<◌, ℤ, List, [], ◌∷◌, length, map, refl, sym, ap, ◌∙◌, subst, arith, Some, Result, Ok, Err}
use Rattle.std.specs.Char.{encode_utf8}
use Rattle.std.specs.Fmt.{decimal, signed_decimal}
use Rattle.qs_spec.specs.Config.{Config}
use Rattle.qs_spec.specs.Data as d
use Rattle.qs_spec.specs.Data.{Data, Named, members_of, pairs_of, values_of}
use Rattle.qs_spec.specs.Entry.{Path, entries_at, member_entries, pair_entries, nothing, one}
use Rattle.qs_data.specs.declared.write.stop.Stop.{Stop}
use Rattle.qs_data.specs.declared.write.writer.Writer.{Writer}
use Rattle.qs_data.specs.write.Parts.{Part, WritesPart, both, data_part, elements_part, members_part, pairs_part, under}
use Rattle.qs_data.proofs.lemmas.write.Parts.{PartContinues, part_ends, part_ends_early, part_goes_on, part_nothing, part_same, part_stops, part_then}

-- a field, and those after it
pub member_here : (name : List ℕ) (x : Data) (ms : List Named) (config : Config) (path : Path)
    → both (under name (data_part x)) (members_part (members_of ms)) config path ≡ members_part (members_of ((name, x) ∷ ms)) config path
unfolding member_entries
member_here name x ms config path = refl

pub member_then : (r : Result (Unit {0}) Stop) (a b c : Writer) (name : List ℕ) (x : Data) (ms : List Named) → WritesPart (Ok tt) a b (under name (data_part x))
    → WritesPart r b c (members_part (members_of ms)) → WritesPart r a c (members_part (members_of ((name, x) ∷ ms)))
member_then r a b c name x ms p q =
    let first = under name (data_part x) in
    let rest = members_part (members_of ms) in
    part_same r a c (both first rest) (members_part (members_of ((name, x) ∷ ms))) (λ path. member_here name x ms a.config path) (part_then r a b c first rest p q)

pub member_stops : (e : Stop) (a b : Writer) (name : List ℕ) (x : Data) (ms : List Named) → WritesPart (Err e) a b (under name (data_part x))
    → WritesPart (Err e) a b (members_part (members_of ((name, x) ∷ ms)))
member_stops e a b name x ms p =
    let first = under name (data_part x) in
    let rest = members_part (members_of ms) in
    part_same (Err e) a b (both first rest) (members_part (members_of ((name, x) ∷ ms))) (λ path. member_here name x ms a.config path) (part_stops e a b first rest p)

-- no field
pub no_member : (a : Writer) → WritesPart (Ok tt) a a (members_part (members_of []))
unfolding member_entries
no_member a = part_same (Ok tt) a a (λ config path. nothing) (members_part (members_of [])) (λ path. refl) (part_nothing a)

-- a pair of a map, and those after it
pub pair_here : (key : List ℕ) (x : Data) (ps : List (Data × Data)) (config : Config) (path : Path)
    → both (under key (data_part x)) (pairs_part (pairs_of ps)) config path ≡ pairs_part (pairs_of ((d.text key, x) ∷ ps)) config path
unfolding pair_entries
pair_here key x ps config path = refl

module _ (start now : Writer) (key : List ℕ) (x : Data) (ps : List (Data × Data)) (whole : Part) (go : PartContinues start now (pairs_part (pairs_of ((d.text key, x) ∷ ps))) whole) (next : Writer) where
  pub pair_goes_on : WritesPart (Ok tt) now next (under key (data_part x)) → PartContinues start next (pairs_part (pairs_of ps)) whole
  pair_goes_on w =
      part_goes_on start now (pairs_part (pairs_of ((d.text key, x) ∷ ps))) whole go next (under key (data_part x)) (pairs_part (pairs_of ps)) (λ path. pair_here key x ps now.config path) w

  pub pair_ends_early : (e : Stop) → WritesPart (Err e) now next (under key (data_part x)) → WritesPart (Err e) start next whole
  pair_ends_early e w =
      part_ends_early start now (pairs_part (pairs_of ((d.text key, x) ∷ ps))) whole go e next (under key (data_part x)) (pairs_part (pairs_of ps)) (λ path. pair_here key x ps now.config path) w

pub pairs_end : (start now : Writer) (whole : Part) → PartContinues start now (pairs_part (pairs_of [])) whole → WritesPart (Ok tt) start now whole
unfolding pair_entries
pairs_end start now whole go = part_ends start now (pairs_part (pairs_of [])) whole go (λ path. refl)

-- lists and maps, empty and not

module _ {A : Type 0} (datum : A → Data) (r : Result (Unit {0}) Stop) (a b : Writer) where
  pub empty_list : (xs : List A) → length xs ≡ 0 → WritesPart r a b (λ config path. one path (Some [])) → WritesPart r a b (data_part (d.sequence (values_of (map datum xs))))
  unfolding entries_at
  empty_list [] h p = part_same r a b (λ config path. one path (Some [])) (data_part (d.sequence (values_of (map datum [])))) (λ path. refl) p
  empty_list (x ∷ xs) h p = absurd (omega (arith, h))

  pub whole_list : (xs : List A) → 0 < length xs → WritesPart r a b (elements_part 0 (values_of (map datum xs))) → WritesPart r a b (data_part (d.sequence (values_of (map datum xs))))
  unfolding entries_at
  whole_list [] h p = absurd (omega (arith, h))
  whole_list (x ∷ xs) h p = part_same r a b (elements_part 0 (values_of (map datum (x ∷ xs)))) (data_part (d.sequence (values_of (map datum (x ∷ xs))))) (λ path. refl) p

module _ {A : Type 0} (entry : A → Data × Data) (r : Result (Unit {0}) Stop) (a b : Writer) where
  pub empty_map : (xs : List A) → length xs ≡ 0 → WritesPart r a b (λ config path. one path (Some [])) → WritesPart r a b (data_part (d.mapping (pairs_of (map entry xs))))
  unfolding entries_at
  empty_map [] h p = part_same r a b (λ config path. one path (Some [])) (data_part (d.mapping (pairs_of (map entry [])))) (λ path. refl) p
  empty_map (x ∷ xs) h p = absurd (omega (arith, h))

  pub whole_map : (xs : List A) → 0 < length xs → WritesPart r a b (pairs_part (pairs_of (map entry xs))) → WritesPart r a b (data_part (d.mapping (pairs_of (map entry xs))))
  unfolding entries_at
  whole_map [] h p = absurd (omega (arith, h))
  whole_map (x ∷ xs) h p = part_same r a b (pairs_part (pairs_of (map entry (x ∷ xs)))) (data_part (d.mapping (pairs_of (map entry (x ∷ xs))))) (λ path. refl) p

-- scalars that fit their shape

module _ (r : Result (Unit {0}) Stop) (a b : Writer) where
  fitting_written : (x y : Data) (t : List ℕ) → y ≡ x → ((path : Path) → one path (Some t) ≡ data_part x a.config path) → WritesPart r a b (λ config path. one path (Some t)) → WritesPart r a b (data_part y)
  fitting_written x y t is same w = subst (λ z. WritesPart r a b (data_part z)) (sym is) (part_same r a b (λ config path. one path (Some t)) (data_part x) same w)

  pub unsigned_written : (x : Data) (n : ℕ) → x ≡ d.unsigned n → WritesPart r a b (λ config path. one path (Some (decimal n))) → WritesPart r a b (data_part x)
  unfolding entries_at
  unsigned_written x n is w = fitting_written (d.unsigned n) x (decimal n) is (λ path. refl) w

  pub signed_written : (x : Data) (y z : ℤ) → y ≡ z → x ≡ d.signed z → WritesPart r a b (λ config path. one path (Some (signed_decimal y))) → WritesPart r a b (data_part x)
  unfolding entries_at
  signed_written x y z same is w = fitting_written (d.signed y) x (signed_decimal y) (is ∙ ap d.signed (sym same)) (λ path. refl) w

  pub character_written : (x : Data) (c : ℕ) → x ≡ d.character c → WritesPart r a b (λ config path. one path (Some (encode_utf8 c))) → WritesPart r a b (data_part x)
  unfolding entries_at
  character_written x c is w = fitting_written (d.character c) x (encode_utf8 c) is (λ path. refl) w
