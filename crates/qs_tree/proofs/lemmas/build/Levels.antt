-- The finished entries, those in frames and those that are left make the whole tree.
use Rattle.qs_tree.proofs.Common.{built_tree, ◌≡◌, ℕ, ◌+◌, List, [], ◌∷◌, ◌++◌, refl, sym, ap, ◌∙◌, arith, IsStrictlySortedBy, keys_of, into_iter_items, Tree, Entries, mapping, Key, ParsedValue, TreeBuilder, OuterLevel, key_cmp, tree_of, entries_from, entries_seen, built_pairs, level_pairs, with_node, entries_map_count, maps_left, IsOpened, key_trees}
use Rattle.std.proofs.lemmas.Map.Made.{keys_of-map_values}
use Rattle.qs_tree.specs.declared.build.finishing.Level.{Level}
use Rattle.qs_tree.proofs.lemmas.tree.Places.{sorted_upto, keys-append}
use Rattle.qs_tree.proofs.lemmas.tree.Keys.{Held}

keys-key_trees : (es : Held) (ps : List (Key × Tree)) → keys_of (key_trees es ++ ps) ≡ keys_of es ++ keys_of ps
keys-key_trees es ps = keys-append (key_trees es) ps ∙ ap (λ ks. ks ++ keys_of ps) (keys_of-map_values tree_of es)

pub keys-built_pairs : (es : List (Key × TreeBuilder)) → keys_of (built_pairs es) ≡ keys_of es
keys-built_pairs es = keys_of-map_values built_tree es

-- the keys of entries in order are, up to one of them
pub may_push : (es : Held) (k : Key) (t : Tree) (ps : List (Key × Tree)) → IsStrictlySortedBy key_cmp (keys_of (key_trees es ++ (k, t) ∷ ps)) → IsStrictlySortedBy key_cmp (keys_of es ++ k ∷ [])
may_push es k t ps sorted = sorted_upto key_cmp (keys_of es) k (keys_of ps) (rw (keys-key_trees es ((k, t) ∷ ps)) at sorted)

pub key_trees-push : (es : Held) (k : Key) (v : ParsedValue) (ps : List (Key × Tree)) → key_trees (es ++ (k, v) ∷ []) ++ ps ≡ key_trees es ++ (k, tree_of v) ∷ ps
key_trees-push [] k v ps = refl
key_trees-push (e ∷ es) k v ps = ap (λ l. (e.0, tree_of e.1) ∷ l) (key_trees-push es k v ps)

-- a map without finished entries
pub is_opened : (level : Level) (es : List (Key × TreeBuilder)) (whole : Entries) → level.done ≡ [] → into_iter_items level.left ≡ es → entries_seen es ≡ whole → IsStrictlySortedBy key_cmp (keys_of es) → IsOpened whole level
is_opened level es whole none left seen sorted =
    record {
      all = rw (none, left) seen;
      sorted = rw (none, left, keys-built_pairs es) sorted;
      maps = rw left (ap entries_map_count seen);
    }

-- the keys of a frame are sorted, whatever node is at its key
abbrev pub IsInOrder : OuterLevel → Type 0
IsInOrder w = (t : Tree) → IsStrictlySortedBy key_cmp (keys_of (with_node w t))

pub in_order : (w : OuterLevel) (t : Tree) → IsStrictlySortedBy key_cmp (keys_of (with_node w t)) → IsInOrder w
in_order w t sorted u =
    rw (keys-key_trees w.level.done ((w.key, u) ∷ built_pairs (into_iter_items w.level.left))) (rw (keys-key_trees w.level.done ((w.key, t) ∷ built_pairs (into_iter_items w.level.left))) at sorted)

-- the levels that wait, from the outermost to the innermost
abbrev pub AreInOrder : List OuterLevel → Type 0
AreInOrder [] = Unit {0}
AreInOrder (w ∷ ws) = IsInOrder w × AreInOrder ws

-- the entries of the outermost, where the map that the innermost waits for has these
abbrev pub whole : List OuterLevel → Entries → Entries
whole [] es = es
whole (w ∷ ws) es = entries_from (with_node w (mapping (whole ws es)))

-- how many of their maps aren't finished
abbrev pub maps_on_stack : List OuterLevel → ℕ
maps_on_stack [] = 0
maps_on_stack (w ∷ ws) = maps_left w.level + maps_on_stack ws

module _ (w : OuterLevel) where
  pub whole-last : (ws : List OuterLevel) (es : Entries) → whole (ws ++ w ∷ []) es ≡ whole ws (entries_from (with_node w (mapping es)))
  whole-last [] es = refl
  whole-last (v ∷ ws) es = ap (λ t. entries_from (with_node v (mapping t))) (whole-last ws es)

  pub in_order-last : (ws : List OuterLevel) → AreInOrder ws → IsInOrder w → AreInOrder (ws ++ w ∷ [])
  in_order-last [] all one = (one, tt)
  in_order-last (v ∷ ws) all one = (all.0, in_order-last ws all.1 one)

  pub last_in_order : (ws : List OuterLevel) → AreInOrder (ws ++ w ∷ []) → AreInOrder ws × IsInOrder w
  last_in_order [] all = (tt, all.0)
  last_in_order (v ∷ ws) all = let more = last_in_order ws all.1 in ((all.0, more.0), more.1)

  pub maps_on_stack-last : (ws : List OuterLevel) → maps_on_stack (ws ++ w ∷ []) ≡ maps_on_stack ws + maps_left w.level
  maps_on_stack-last [] = omega arith
  maps_on_stack-last (v ∷ ws) = omega (arith, maps_on_stack-last ws)

  -- a map is taken out of a level, which waits for it
  pub taken : (ws : List OuterLevel) (level inner : Level) (es total : Entries) → with_node w (mapping es) ≡ level_pairs level → IsOpened es inner → whole ws (entries_from (level_pairs level)) ≡ total
      → whole (ws ++ w ∷ []) (entries_from (level_pairs inner)) ≡ total
  taken ws level inner es total same opened all =
      whole-last ws (entries_from (level_pairs inner))
      ∙ ap (λ l. whole ws (entries_from (with_node w (mapping l)))) opened.all
      ∙ ap (λ ps. whole ws (entries_from ps)) same
      ∙ all

  -- a level is finished, and its frame goes on
  pub put_back : (ws : List OuterLevel) (level outer : Level) (es total : Entries) → level_pairs outer ≡ with_node w (mapping es) → es ≡ entries_from (level_pairs level) → whole (ws ++ w ∷ []) (entries_from (level_pairs level)) ≡ total
      → whole ws (entries_from (level_pairs outer)) ≡ total
  put_back ws level outer es total same done all =
      ap (λ ps. whole ws (entries_from ps)) (same ∙ ap (λ l. with_node w (mapping l)) done)
      ∙ sym (whole-last ws (entries_from (level_pairs level)))
      ∙ all
