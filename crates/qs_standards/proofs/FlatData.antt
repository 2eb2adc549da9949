-- Flat data is written as a form of its names and values.
use Rattle.std.proofs.Common.{◌≡◌, ◌≢◌, ℕ, Bool, false, cond, nat_lt, List, [], ◌∷◌, map, refl, ap, ap₂, ◌∙◌, arith, append-nil, Some, None}
use Rattle.std.specs.List.{AllByRecursion}
use Rattle.std.proofs.lemmas.Bool.Decides.{nat_tests}
use Rattle.qs_spec.specs.Config.{Config, ArrayFormat}
use Rattle.qs_spec.specs.Data.{Data, members_of, pairs_of}
use Rattle.qs_spec.specs.Entry.{Entry, Output, entries, entries_at, member_entries, pair_entries, deeper, and_then, failure, too_deep}
use Rattle.qs_spec.specs.Written.{written}
use Rattle.qs_standards.specs.FormUrlencoded.{NameValue, form_parsed}
use Rattle.qs_standards.specs.Bracketed.{entry_named, IsOfBytes, AreNamesOfBytes, WritesAny, Writes, text_struct, text_map}
use Rattle.qs_standards.proofs.WrittenForms.{forms}

abbrev flat_entry : NameValue → Entry
flat_entry n = record { path = n.name ∷ []; value = Some n.value }

abbrev flat : List NameValue → Output
flat ns = record { entries = map flat_entry ns; error = None }

never_below : (limit : ℕ) → nat_lt limit 0 ≡ false
never_below limit = grind (arith, nat_tests)

one_text : (limit : ℕ) (fm : ArrayFormat) (n : NameValue) → deeper limit [] n.name (entries_at limit fm (Data.text n.value)) ≡ record { entries = flat_entry n ∷ []; error = None }
unfolding deeper entries_at
one_text limit fm n = ap (λ x. cond x (failure too_deep) (record { entries = flat_entry n ∷ []; error = None })) (never_below limit)

members : (limit : ℕ) (fm : ArrayFormat) (ns : List NameValue) → member_entries limit fm (members_of (map (λ n. (n.name, Data.text n.value)) ns)) [] ≡ flat ns
unfolding member_entries
members limit fm [] = refl
members limit fm (n ∷ ns) = ap₂ and_then (one_text limit fm n) (members limit fm ns)

pairs : (limit : ℕ) (fm : ArrayFormat) (ns : List NameValue) → pair_entries limit fm (pairs_of (map (λ n. (Data.text n.name, Data.text n.value)) ns)) [] ≡ flat ns
unfolding pair_entries
pairs limit fm [] = refl
pairs limit fm (n ∷ ns) = ap₂ and_then (one_text limit fm n) (pairs limit fm ns)

pub struct_flat : (config : Config) (ns : List NameValue) → entries config (text_struct ns) ≡ flat ns
unfolding entries_at
struct_flat config ns = members config.max_depth config.array_format ns

pub map_flat : (config : Config) (n : NameValue) (ns : List NameValue) → entries config (text_map (n ∷ ns)) ≡ flat (n ∷ ns)
unfolding entries_at
map_flat config n ns = pairs config.max_depth config.array_format (n ∷ ns)

pub map_whole : (config : Config) (ns : List NameValue) → (entries config (text_map ns)).error ≡ None
unfolding entries_at
map_whole config [] = refl
map_whole config (n ∷ ns) = ap (λ (o : Output). o.error) (map_flat config n ns)

flat_bytes : (ns : List NameValue) → AreNamesOfBytes ns → AllByRecursion IsOfBytes (map flat_entry ns)
flat_bytes [] h = tt
flat_bytes (n ∷ ns) h = (((h.0.0, tt), h.0.1), flat_bytes ns h.1)

flat_writes : (ns : List NameValue) → AllByRecursion Writes (map flat_entry ns)
flat_writes [] = tt
flat_writes (n ∷ ns) = (by n.name, flat_writes ns)
  where
    by : (name : List ℕ) → WritesAny (name ∷ []) (Some n.value)
    by [] = tt
    by (b ∷ name) = tt

flat_named : (ns : List NameValue) → map entry_named (map flat_entry ns) ≡ ns
flat_named [] = refl
flat_named (n ∷ ns) = ap₂ (λ (name : List ℕ) (l : List NameValue). record { name = name; value = n.value } ∷ l) (append-nil n.name) (flat_named ns)

flat_form : (is_form : Bool) (ns : List NameValue) → AreNamesOfBytes ns → form_parsed (written is_form false (map flat_entry ns)) ≡ ns
flat_form is_form ns h = forms is_form (map flat_entry ns) (flat_bytes ns h) (flat_writes ns) ∙ flat_named ns

pub struct_form : (config : Config) (ns : List NameValue) → AreNamesOfBytes ns → form_parsed (written config.is_form false (entries config (text_struct ns)).entries) ≡ ns
struct_form config ns h = ap (λ (o : Output). form_parsed (written config.is_form false o.entries)) (struct_flat config ns) ∙ flat_form config.is_form ns h

pub map_form : (config : Config) (ns : List NameValue) → ns ≢ [] → AreNamesOfBytes ns → form_parsed (written config.is_form false (entries config (text_map ns)).entries) ≡ ns
map_form config [] s h = absurd (s refl)
map_form config (n ∷ ns) s h = ap (λ (o : Output). form_parsed (written config.is_form false o.entries)) (map_flat config n ns) ∙ flat_form config.is_form (n ∷ ns) h
