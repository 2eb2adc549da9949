-- Segments are in a total order, in which only equal ones tie, and putting two into a list of keys commutes.
use Rattle.std.proofs.Common.{◌≡◌, true, false, List, [], ◌∷◌, refl, sym, ap, ◌∙◌, Ordering, Less, Equal, Greater, is_eq}
use Rattle.std.specs.Cmp.{IsTotalOrder}
use Rattle.std.specs.Ordering.{ordering_reverse}
use Rattle.std.proofs.lemmas.Cmp.{nat_cmp_total, nat_list_cmp_total, alike_right, eq_by_cmp_equiv}
use Rattle.std.proofs.lemmas.Map.Lookups.{exact_unsigned, exact_bytes}
use Rattle.qs_spec.specs.Segment.{Segment}
use Rattle.qs_spec.specs.Segment.Segment.{Int, Str}
use Rattle.qs_spec.specs.Segment.{compare_segments, is_same_segment}
use Rattle.std.specs.Ordering.{match_ordering}
use Rattle.qs_spec.specs.Tree.{put}

turned : (x y : Segment) → compare_segments x y ≡ ordering_reverse (compare_segments y x)
turned (Int m) (Int n) = nat_cmp_total.antisymm m n
turned (Int m) (Str b) = refl
turned (Str a) (Int n) = refl
turned (Str a) (Str b) = nat_list_cmp_total.antisymm a b

through : (x y z : Segment) → compare_segments x y ≡ Less → compare_segments y z ≡ Less → compare_segments x z ≡ Less
through (Int l) (Int m) (Int n) e f = nat_cmp_total.trans l m n e f
through (Int l) (Int m) (Str c) e f = refl
through (Int l) (Str b) (Int n) e f = cc
through (Int l) (Str b) (Str c) e f = refl
through (Str a) (Int m) z e f = cc
through (Str a) (Str b) (Int n) e f = cc
through (Str a) (Str b) (Str c) e f = nat_list_cmp_total.trans a b c e f

same_compared : (x y z : Segment) → compare_segments x y ≡ Equal → compare_segments x z ≡ compare_segments y z
same_compared (Int l) (Int m) (Int n) e = nat_cmp_total.congr l m n e
same_compared (Int l) (Int m) (Str c) e = refl
same_compared (Int l) (Str b) z e = cc
same_compared (Str a) (Int m) z e = cc
same_compared (Str a) (Str b) (Int n) e = refl
same_compared (Str a) (Str b) (Str c) e = nat_list_cmp_total.congr a b c e

pub segments_total : IsTotalOrder compare_segments
segments_total = record { antisymm = turned; trans = through; congr = same_compared }

pub exact_segment : (x y : Segment) → compare_segments x y ≡ Equal → x ≡ y
exact_segment (Int m) (Int n) e = ap Int (exact_unsigned m n e)
exact_segment (Int m) (Str b) e = cc
exact_segment (Str a) (Int n) e = cc
exact_segment (Str a) (Str b) e = ap Str (exact_bytes a b e)

-- two segments that are both k are one
pub same_as_both : (k a b : Segment) → is_same_segment k a ≡ true → is_same_segment k b ≡ true → is_same_segment a b ≡ true
same_as_both k a b e f = sym ((eq_by_cmp_equiv segments_total).congr k a b e) ∙ f

pub put_lt : (k x : Segment) (xs : List Segment) → compare_segments k x ≡ Less → put k (x ∷ xs) ≡ k ∷ x ∷ xs
put_lt k x xs e = ap (λ o. match_ordering o (k ∷ x ∷ xs) (x ∷ xs) (x ∷ put k xs)) e

pub put_eq : (k x : Segment) (xs : List Segment) → compare_segments k x ≡ Equal → put k (x ∷ xs) ≡ x ∷ xs
put_eq k x xs e = ap (λ o. match_ordering o (k ∷ x ∷ xs) (x ∷ xs) (x ∷ put k xs)) e

pub put_gt : (k x : Segment) (xs : List Segment) → compare_segments k x ≡ Greater → put k (x ∷ xs) ≡ x ∷ put k xs
put_gt k x xs e = ap (λ o. match_ordering o (k ∷ x ∷ xs) (x ∷ xs) (x ∷ put k xs)) e

turned_less : (a b : Segment) → compare_segments a b ≡ Less → compare_segments b a ≡ Greater
turned_less a b e = turned b a ∙ ap ordering_reverse e

put_less : (a b : Segment) (ks : List Segment) → compare_segments a b ≡ Less → put a (put b ks) ≡ put b (put a ks)
put_less a b [] e = put_lt a b [] e ∙ sym (put_gt b a [] (turned_less a b e))
put_less a b (x ∷ xs) e = by_b (put_less a b xs e) (compare_segments b x) refl
  where
    put_after : put b (a ∷ x ∷ xs) ≡ a ∷ put b (x ∷ xs)
    put_after = put_gt b a (x ∷ xs) (turned_less a b e)

    by_a : put a (put b xs) ≡ put b (put a xs) → compare_segments b x ≡ Greater → (o : Ordering) → compare_segments a x ≡ o → put a (put b (x ∷ xs)) ≡ put b (put a (x ∷ xs))
    by_a rest g Less f = ap (put a) (put_gt b x xs g) ∙ put_lt a x (put b xs) f ∙ sym (ap (put b) (put_lt a x xs f) ∙ put_after ∙ ap (λ l. a ∷ l) (put_gt b x xs g))
    by_a rest g Equal f = ap (put a) (put_gt b x xs g) ∙ put_eq a x (put b xs) f ∙ sym (ap (put b) (put_eq a x xs f) ∙ put_gt b x xs g)
    by_a rest g Greater f = ap (put a) (put_gt b x xs g) ∙ put_gt a x (put b xs) f ∙ ap (λ l. x ∷ l) rest ∙ sym (ap (put b) (put_gt a x xs f) ∙ put_gt b x (put a xs) g)

    by_b : put a (put b xs) ≡ put b (put a xs) → (o : Ordering) → compare_segments b x ≡ o → put a (put b (x ∷ xs)) ≡ put b (put a (x ∷ xs))
    by_b rest Less g = ap (put a) (put_lt b x xs g) ∙ put_lt a b (x ∷ xs) e ∙ sym (ap (put b) (put_lt a x xs (through a b x e g)) ∙ put_after ∙ ap (λ l. a ∷ l) (put_lt b x xs g))
    by_b rest Equal g = ap (put a) (put_eq b x xs g) ∙ put_lt a x xs (less g) ∙ sym (ap (put b) (put_lt a x xs (less g)) ∙ put_after ∙ ap (λ l. a ∷ l) (put_eq b x xs g))
      where
        less : compare_segments b x ≡ Equal → compare_segments a x ≡ Less
        less g = sym (alike_right segments_total b x a g) ∙ e
    by_b rest Greater g = by_a rest g (compare_segments a x) refl

pub put_twice : (a b : Segment) (ks : List Segment) → put a (put b ks) ≡ put b (put a ks)
put_twice a b ks = by (compare_segments a b) refl
  where
    by : (o : Ordering) → compare_segments a b ≡ o → put a (put b ks) ≡ put b (put a ks)
    by Less e = put_less a b ks e
    by Equal e = let same : a ≡ b = exact_segment a b e in cc
    by Greater e = sym (put_less b a ks (turned b a ∙ ap ordering_reverse e))

-- a segment below or above another is another
pub not_above : (x k : Segment) → compare_segments x k ≡ Less → is_same_segment k x ≡ false
not_above x k e = ap is_eq (turned k x ∙ ap ordering_reverse e)

pub not_below : (x k : Segment) → compare_segments x k ≡ Greater → is_same_segment k x ≡ false
not_below x k e = ap is_eq (turned k x ∙ ap ordering_reverse e)

pub is_itself : (x : Segment) → is_same_segment x x ≡ true
is_itself x = (eq_by_cmp_equiv segments_total).refl x

pub same_turned : (x y : Segment) → is_same_segment x y ≡ is_same_segment y x
same_turned x y = (eq_by_cmp_equiv segments_total).symm x y
