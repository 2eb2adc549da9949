-- Lists of other lengths are not the same.
use Rattle.qs_data.proofs.Common.{◌≡◌, ◌≢◌, suc, false, List, [], ◌∷◌, length, refl, ap, String, Global, Data, values_same, pairs_same, members_same, values_in, pairs_in, members_in, and-false}

pub other_items : (xs ys : List Data) → length xs ≢ length ys → values_same (values_in xs) (values_in ys) ≡ false
other_items [] [] differ = absurd (differ refl)
other_items (x ∷ xs) (y ∷ ys) differ = rw (other_items xs ys (λ same. differ (ap suc same))) (and-false _)
other_items xs ys differ = refl

pub other_pairs : (ps qs : List (Data × Data)) → length ps ≢ length qs → pairs_same (pairs_in ps) (pairs_in qs) ≡ false
other_pairs [] [] differ = absurd (differ refl)
other_pairs (p ∷ ps) (q ∷ qs) differ = rw (other_pairs ps qs (λ same. differ (ap suc same))) (and-false _)
other_pairs ps qs differ = refl

pub other_members : (ms ns : List (String Global × Data)) → length ms ≢ length ns → members_same (members_in ms) (members_in ns) ≡ false
other_members [] [] differ = absurd (differ refl)
other_members (m ∷ ms) (n ∷ ns) differ = rw (other_members ms ns (λ same. differ (ap suc same))) (and-false _)
other_members ms ns differ = refl
