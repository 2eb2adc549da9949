-- A value owns the strings that are escaped in its tree.
use Rattle.qs_tree.proofs.Common.{◌≡◌, List, [], ◌∷◌, ◌++◌, refl, ap₂, subst, rules, map, Borrowed, key_escapes, escapes, item_escapes, entry_escapes, Key, ParsedValue, the_lemmas, ind-ParsedValue, roll-ParsedValue, roll-ParsedMap, ParsedMap, segment_of_key, is_owned_key, tree_of, items_of, entries_of_map, key_owns, items_own, entries_own, owns, map_owns}
use Rattle.qs_tree.specs.declared.tree.key.Key.TheVariants as key
use Rattle.qs_tree.specs.declared.tree.value.ParsedValue.TheFolds.{map-ParsedValue, map-ParsedMap}
use Rattle.qs_tree.specs.declared.tree.value.ParsedValue.TheOpen.{ParsedValue-F, ParsedMap-F}
use Rattle.qs_tree.proofs.lemmas.tree.Keys.{entries_view, entries_of_map-map}

abbrev OwnsEscaped : ParsedValue → Type 0
OwnsEscaped v = owns v ≡ escapes (tree_of v)

abbrev OwnEscaped : ParsedMap → Type 0
OwnEscaped m = map_owns m ≡ entry_escapes (entries_of_map m)

key_escaped : (k : Key) → key_owns k ≡ key_escapes (segment_of_key k) (is_owned_key k)
key_escaped (key.String (Borrowed r)) = refl
key_escaped k = refl

items_escaped : (vs : List ((v : ParsedValue) × OwnsEscaped v)) → items_own (map owns (map (λ e. e.0) vs)) ≡ item_escapes (items_of (map (λ e. e.0) vs))
items_escaped [] = refl
items_escaped (v ∷ vs) = ap₂ ◌++◌ v.1 (items_escaped vs)

abbrev without_proof : Key × ((v : ParsedValue) × OwnsEscaped v) → Key × ParsedValue
without_proof p = (p.0, p.1.0)

entries_escaped : (es : List (Key × ((v : ParsedValue) × OwnsEscaped v))) → entries_own (map (λ p. (p.0, owns p.1)) (map without_proof es)) ≡ entry_escapes (entries_view (map without_proof es))
entries_escaped [] = refl
entries_escaped (e ∷ es) = ap₂ ◌++◌ (key_escaped e.0) (ap₂ ◌++◌ e.1.1 (entries_escaped es))

map_owns-map : (m : ParsedMap) → map_owns m ≡ entries_own (map (λ p. (p.0, owns p.1)) m.map)
map_owns-map m = search (rules, the_lemmas)

layer_escaped : (y : ParsedValue-F ((v : ParsedValue) × OwnsEscaped v) ((m : ParsedMap) × OwnEscaped m)) → OwnsEscaped (roll-ParsedValue (map-ParsedValue _ _ ParsedValue ParsedMap (λ e. e.0) (λ e. e.0) y))
layer_escaped (ParsedValue-F.Map m) = search (rules, the_lemmas, m.1)
layer_escaped (ParsedValue-F.Sequence v) = search (rules, the_lemmas, items_escaped v.items)
layer_escaped (ParsedValue-F.String (Borrowed t)) = search (rules, the_lemmas)
layer_escaped y = search (rules, the_lemmas)

map_escaped : (y : ParsedMap-F ((v : ParsedValue) × OwnsEscaped v) ((m : ParsedMap) × OwnEscaped m)) → OwnEscaped (roll-ParsedMap (map-ParsedMap _ _ ParsedValue ParsedMap (λ e. e.0) (λ e. e.0) y))
map_escaped y =
    let m : ParsedMap = roll-ParsedMap (map-ParsedMap _ _ ParsedValue ParsedMap (λ e. e.0) (λ e. e.0) y) in
    rw (map_owns-map m, entries_of_map-map m) (entries_escaped y.map)

pub owns_escaped : (v : ParsedValue) → owns v ≡ escapes (tree_of v)
owns_escaped = ind-ParsedValue OwnsEscaped OwnEscaped
    (λ x y same. subst (λ z. OwnsEscaped (roll-ParsedValue z)) same (layer_escaped y))
    (λ x y same. subst (λ z. OwnEscaped (roll-ParsedMap z)) same (map_escaped y))
