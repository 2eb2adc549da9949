-- What the table of classes says of a byte.
use Rattle.qs_tree.proofs.Common.{◌≡◌, ◌∙◌, ℕ, ◌<◌, ◌==◌, ◌||◌, Bool, true, false, not, get_or, refl, sym, agree_below_at, byte_kind, bit_and, is_escape, is_ampersand, ends_of, classes_of, IsInside}
use Rattle.qs_tree.specs.declared.escape.search.classes.TheConstants.{CLASSES}
use Rattle.qs_tree.specs.declared.scan.cursor.Until as until

-- the byte is in one of the classes exactly if it is an escape or ends the run
classes_are : (u : until.Until) (classes : ℕ) (b : ℕ) → b < 256
    → ((c : ℕ) → c < 256 → (bit_and (get_or CLASSES c 0) classes == 0) ≡ not (is_escape c || ends_of u (byte_kind c)))
    → (bit_and (get_or CLASSES b 0) classes == 0) ≡ true → (is_escape b ≡ false) × (ends_of u (byte_kind b) ≡ false)
classes_are u classes b small all is = by (is_escape b) (ends_of u (byte_kind b)) (sym (all b small) ∙ is)
  where
    by : (e k : Bool) → not (e || k) ≡ true → (e ≡ false) × (k ≡ false)
    by false false h = (refl, refl)
    by e k h = cc

pub ordinary_are : (b : ℕ) → b < 256 → (get_or CLASSES b 0 == 48) ≡ not (is_ampersand b || is_escape b || b == 61 || b == 91 || b == 93)
ordinary_are b small = agree_below_at (λ b. get_or CLASSES b 0 == 48) (λ b. not (is_ampersand b || is_escape b || b == 61 || b == 91 || b == 93)) 256 b refl small

pub ordinary_alone : (b : ℕ) → b < 256 → (get_or CLASSES b 0 == 48) ≡ true → (is_ampersand b ≡ false) × (is_escape b ≡ false)
ordinary_alone b small is = by (is_ampersand b) (is_escape b) (b == 61) (b == 91) (b == 93) (sym (ordinary_are b small) ∙ is)
  where
    by : (a p e o c : Bool) → not (a || p || e || o || c) ≡ true → (a ≡ false) × (p ≡ false)
    by false false false false false h = (refl, refl)
    by a p e o c h = cc

pub inside_alone : (u : until.Until) (b : ℕ) → b < 256 → (bit_and (get_or CLASSES b 0) (classes_of u) == 0) ≡ true → IsInside (ends_of u) b × (is_escape b ≡ false)
inside_alone u b small is =
    let found = classes_are u (classes_of u) b small (λ c below. all u c below) is in
    ((not_percent b found.0, found.1), found.0)
  where
    -- by the table, for each kind of run
    all : (u : until.Until) (c : ℕ) → c < 256 → (bit_and (get_or CLASSES c 0) (classes_of u) == 0) ≡ not (is_escape c || ends_of u (byte_kind c))
    all until.TheVariants.Separator c below = agree_below_at (λ c. bit_and (get_or CLASSES c 0) 9 == 0) (λ c. not (is_escape c || ends_of until.TheVariants.Separator (byte_kind c))) 256 c refl below
    all until.TheVariants.SeparatorOrOpen c below = agree_below_at (λ c. bit_and (get_or CLASSES c 0) 11 == 0) (λ c. not (is_escape c || ends_of until.TheVariants.SeparatorOrOpen (byte_kind c))) 256 c refl below
    all until.TheVariants.Close c below = agree_below_at (λ c. bit_and (get_or CLASSES c 0) 12 == 0) (λ c. not (is_escape c || ends_of until.TheVariants.Close (byte_kind c))) 256 c refl below

    not_percent : (b : ℕ) → is_escape b ≡ false → (b == 37) ≡ false
    not_percent b h = by (b == 43) (b == 37) h
      where
        by : (p e : Bool) → (p || e) ≡ false → e ≡ false
        by p false h = refl
        by false true h = cc
        by true true h = cc
