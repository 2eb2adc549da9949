-- Sorted entries whose values may be of the type that holds the entries.
use Rattle.std.specs.Prelude.{List, [], ◌∷◌}
use mathlib.Core.Path.{◌≡◌, refl, sym, ap, subst}
use mathlib.Core.Former.{Former, this, const, pair, list, via, children}
use base.Stored.{code_map, coded×, gcons}
use denote.RattleType.{RattleType}
use denote.HoleLaws.{Alike}
use denote.HolePlaces.{Recodes, struct_places, laid, stays}
use denote.Hole.Carrier.{listed}
use denote.Hole.Fix.{over}
use denote.Param.Weighed.{Weighed, w_list, w_pair, w_const}
use denote.Model.Placed.{view_places}
use denote.Struct.Tuple.{tuple_type, Tuple}
use Rattle.std.specs.declared.cmp.Ord as ord
use Rattle.std.specs.declared.cmp.PartialEq as eq
use Rattle.std.specs.declared.cmp.PartialOrd as partial
use Rattle.std.specs.List.Sorted.{IsStrictlySortedBy, IsStrictlySortedBy-prop}
use Rattle.std.specs.Map.{values_of}
use Rattle.std.proofs.lemmas.Map.Made.{keys_of-map_values}
use Rattle.std.specs.formers.vec.Vec as vec
use Rattle.std.specs.declared.alloc.Global.{Global}
use Rattle.std.specs.contracts.alloc.Global as heap
use Rattle.std.specs.contracts.impls.GlobalAllocator.TheImpl.{ghosts}
use Rattle.qs_tree.specs.declared.tree.entries.SortedEntries.TheInside.{Inside}
use Rattle.qs_tree.specs.declared.tree.entries.SortedEntries.TheView.{view, invariant}
use Rattle.qs_tree.specs.contracts.tree.entries.SortedEntries as C
use Rattle.qs_tree.specs.contracts.tree.entries.SortedEntries.TheInside as I

abbrev pub entry : Former {0} → Type 0 → Former {0}
entry g K = pair (const K) g

abbrev pub the_former : Former {0} → Type 0 → Former {0}
the_former g K = list (entry g K)

abbrev pub the_weighed : {g : Former {0}} → Weighed g → (K : Type 0) → Weighed (the_former g K)
the_weighed w K = w_list (w_pair (w_const K) w)

pub the_empty : (K : Type 0) → K → List (K × ⊥)
the_empty K k = []

abbrev pub the_items : (K X : Type 0) → List (K × X) → List X
the_items K X es = values_of es

pub the_items_listed : (K X : Type 0) (d : List (K × X)) → listed _ (children (the_former this K) X d) ≡ the_items K X d
the_items_listed K X [] = refl
the_items_listed K X (e ∷ es) = ap (λ l. e.1 ∷ l) (the_items_listed K X es)

abbrev fields : Type 0 → Former {0}
fields K = via (vec.the_former (entry this K) Global) (λ X. Inside K X) (λ X a. a.items) (λ X v. record { items = v }) (λ X a. refl) (λ X v. refl)

abbrev on_value : {K X Y : Type 0} → (X → Y) → K × X → K × Y
on_value h e = (e.0, h e.1)

module _ (K : RattleType) (G : ord.Ghosts K.Denot) (G' : eq.Ghosts K.Denot) (G'' : partial.Ghosts K.Denot) (R S : RattleType) (h : R.Denot → S.Denot) where
  pair_places : Alike R S h → Alike (Tuple (K ∷ R ∷ [])) (Tuple (K ∷ S ∷ [])) (on_value h)
  pair_places a = struct_places (tuple_type (K ∷ R ∷ [])) (tuple_type (K ∷ S ∷ [])) ((λ k. k), (h, tt)) (on_value h) (λ d. refl) refl (stays K, (laid _ _ _ a, tt))

  pub the_places : Alike R S h → Alike (C.the_row K R G G' G'') (C.the_row K S G G' G'') ((the_former this K.Denot).map R.Denot S.Denot h)
  the_places a = view_places (fields K.Denot) (the_former this K.Denot) (λ X. view K.Denot X G G' G'') (λ X Y k u. refl) (λ X u. refl) R.Denot S.Denot h (C.the_row K R G G' G'').coded (C.the_row K S G G' G'').coded
      (invariant K.Denot R.Denot G G' G'') (invariant K.Denot S.Denot G G' G'') (λ u. IsStrictlySortedBy-prop G.cmp _) (λ u. IsStrictlySortedBy-prop G.cmp _)
      (λ u s. subst (IsStrictlySortedBy G.cmp) (sym (keys_of-map_values h u.items.items)) s) (λ u s. subst (IsStrictlySortedBy G.cmp) (keys_of-map_values h u.items.items) s)
      (over (I.the_row K R G G' G'')) (over (I.the_row K S G G' G''))
      (struct_places (I.the_type K R G G' G'') (I.the_type K S G G' G'') (vec.mapped (on_value h), tt) _ (λ d. refl) refl (laid _ _ _ (vec.the_places heap.the_row ghosts (Tuple (K ∷ R ∷ [])) (Tuple (K ∷ S ∷ [])) (on_value h) (pair_places a)), tt))

  pub the_codes_placed : Recodes R S h → Recodes (C.the_row K R G G' G'') (C.the_row K S G G' G'') ((the_former this K.Denot).map R.Denot S.Denot h)
  the_codes_placed e d = sym (code_map (coded× K.coded R.coded).code (coded× K.coded S.coded).code (on_value h) (λ x i. gcons (K.coded.code x.0) (sym (e x.1) i)) d)
