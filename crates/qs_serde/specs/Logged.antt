-- How the logic stores the events that a serializer was sent.
use Rattle.std.specs.Prelude.{◌≡◌, ℕ, ℤ, pos, List, [], ◌∷◌, ◌++◌, true, false, cond, ◌==◌, Some, None, option_map, refl}
use Rattle.std.specs.Float.{Float, nan}
use Rattle.std.specs.Coded.{Coded, code_by, coded×, coded_ℕ, coded_ℤ, coded_list, coded_option}
use base.Stored.{coded_float}
use mathlib.Core.Path.{ap}
use Rattle.serde.specs.Event.{Event, Log, boolean, signed, unsigned, single, double, character, text, octets, nothing, unit_variant, seq_begins, seq_ends, map_begins, map_ends, field_key, variant_key, key_begins, key_ends, flattens}
use Rattle.serde.specs.declared.name.Case.{Case}
use Rattle.serde.specs.declared.name.Case.TheVariants.{AsIs, Lower, Upper, Pascal, Camel, Snake, ScreamingSnake, Kebab, ScreamingKebab}

abbrev case_number : Case → ℕ
case_number AsIs = 0
case_number Lower = 1
case_number Upper = 2
case_number Pascal = 3
case_number Camel = 4
case_number Snake = 5
case_number ScreamingSnake = 6
case_number Kebab = 7
case_number ScreamingKebab = 8

abbrev case_at : ℕ → Case
case_at n = cond (n == 0) AsIs (cond (n == 1) Lower (cond (n == 2) Upper (cond (n == 3) Pascal (cond (n == 4) Camel (cond (n == 5) Snake (cond (n == 6) ScreamingSnake (cond (n == 7) Kebab ScreamingKebab)))))))

pub case_at-case_number : (c : Case) → case_at (case_number c) ≡ c
case_at-case_number AsIs = refl
case_at-case_number Lower = refl
case_at-case_number Upper = refl
case_at-case_number Pascal = refl
case_at-case_number Camel = refl
case_at-case_number Snake = refl
case_at-case_number ScreamingSnake = refl
case_at-case_number Kebab = refl
case_at-case_number ScreamingKebab = refl

abbrev Parts : Type 0
Parts = ℕ × (ℕ × (List ℕ × (ℤ × Float)))

abbrev to_parts : Event → Parts
to_parts (boolean true) = (0, (0, ([], (pos 0, nan))))
to_parts (boolean false) = (1, (0, ([], (pos 0, nan))))
to_parts (signed z) = (2, (0, ([], (z, nan))))
to_parts (unsigned n) = (3, (n, ([], (pos 0, nan))))
to_parts (single x) = (4, (0, ([], (pos 0, x))))
to_parts (double x) = (5, (0, ([], (pos 0, x))))
to_parts (character n) = (6, (n, ([], (pos 0, nan))))
to_parts (text s) = (7, (0, (s, (pos 0, nan))))
to_parts (octets s) = (8, (0, (s, (pos 0, nan))))
to_parts nothing = (9, (0, ([], (pos 0, nan))))
to_parts (unit_variant s c) = (10, (case_number c, (s, (pos 0, nan))))
to_parts (seq_begins None) = (11, (0, ([], (pos 0, nan))))
to_parts (seq_begins (Some n)) = (12, (n, ([], (pos 0, nan))))
to_parts seq_ends = (13, (0, ([], (pos 0, nan))))
to_parts (map_begins None) = (14, (0, ([], (pos 0, nan))))
to_parts (map_begins (Some n)) = (15, (n, ([], (pos 0, nan))))
to_parts map_ends = (16, (0, ([], (pos 0, nan))))
to_parts (field_key s c) = (17, (case_number c, (s, (pos 0, nan))))
to_parts (variant_key s c) = (18, (case_number c, (s, (pos 0, nan))))
to_parts key_begins = (19, (0, ([], (pos 0, nan))))
to_parts key_ends = (20, (0, ([], (pos 0, nan))))
to_parts flattens = (21, (0, ([], (pos 0, nan))))

abbrev from_parts : Parts → Event
from_parts p =
    cond (p.0 == 0) (boolean true) (cond (p.0 == 1) (boolean false) (cond (p.0 == 2) (signed p.1.1.1.0) (cond (p.0 == 3) (unsigned p.1.0) (cond (p.0 == 4) (single p.1.1.1.1)
    (cond (p.0 == 5) (double p.1.1.1.1) (cond (p.0 == 6) (character p.1.0) (cond (p.0 == 7) (text p.1.1.0) (cond (p.0 == 8) (octets p.1.1.0)
    (cond (p.0 == 9) nothing (cond (p.0 == 10) (unit_variant p.1.1.0 (case_at p.1.0)) (cond (p.0 == 11) (seq_begins None) (cond (p.0 == 12) (seq_begins (Some p.1.0))
    (cond (p.0 == 13) seq_ends (cond (p.0 == 14) (map_begins None) (cond (p.0 == 15) (map_begins (Some p.1.0)) (cond (p.0 == 16) map_ends
    (cond (p.0 == 17) (field_key p.1.1.0 (case_at p.1.0)) (cond (p.0 == 18) (variant_key p.1.1.0 (case_at p.1.0)) (cond (p.0 == 19) key_begins (cond (p.0 == 20) key_ends
    flattens))))))))))))))))))))

pub from_parts-to_parts : (e : Event) → from_parts (to_parts e) ≡ e
from_parts-to_parts (boolean true) = refl
from_parts-to_parts (boolean false) = refl
from_parts-to_parts (signed z) = refl
from_parts-to_parts (unsigned n) = refl
from_parts-to_parts (single x) = refl
from_parts-to_parts (double x) = refl
from_parts-to_parts (character n) = refl
from_parts-to_parts (text s) = refl
from_parts-to_parts (octets s) = refl
from_parts-to_parts nothing = refl
from_parts-to_parts (unit_variant s c) = ap (unit_variant s) (case_at-case_number c)
from_parts-to_parts (seq_begins None) = refl
from_parts-to_parts (seq_begins (Some n)) = refl
from_parts-to_parts seq_ends = refl
from_parts-to_parts (map_begins None) = refl
from_parts-to_parts (map_begins (Some n)) = refl
from_parts-to_parts map_ends = refl
from_parts-to_parts (field_key s c) = ap (field_key s) (case_at-case_number c)
from_parts-to_parts (variant_key s c) = ap (variant_key s) (case_at-case_number c)
from_parts-to_parts key_begins = refl
from_parts-to_parts key_ends = refl
from_parts-to_parts flattens = refl

abbrev pub log_code : Coded Log
log_code = coded_option (coded_list (code_by Parts (coded× coded_ℕ (coded× coded_ℕ (coded× (coded_list coded_ℕ) (coded× coded_ℤ coded_float)))) to_parts from_parts from_parts-to_parts))

abbrev pub then : Log → Event → Log
then log e = option_map (λ es. es ++ e ∷ []) log
