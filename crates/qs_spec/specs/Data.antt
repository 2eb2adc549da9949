-- Data: what a shape reads, and what is written.
use Rattle.std.specs.Prelude.{ℕ, ℤ, Bool, List, [], ◌∷◌}

-- Texts, names and bytes are lists of bytes. A character is its code.
mutual
  pub data Data : Type 0 where
    unit : Data
    none : Data
    some : Data → Data
    boolean : Bool → Data
    unsigned : ℕ → Data
    signed : ℤ → Data
    character : ℕ → Data
    text : List ℕ → Data
    bytes : List ℕ → Data
    sequence : Values → Data
    tuple : Values → Data
    mapping : Pairs → Data
    struct : Members → Data
    newtype : Data → Data
    unit_variant : (name : List ℕ) → Data
    newtype_variant : (name : List ℕ) → Data → Data
    tuple_variant : (name : List ℕ) → Values → Data
    struct_variant : (name : List ℕ) → Members → Data

  pub data Values : Type 0 where
    no_values : Values
    one_value : Data → Values → Values

  pub data Pairs : Type 0 where
    no_pairs : Pairs
    one_pair : (key : Data) → (value : Data) → Pairs → Pairs

  pub data Members : Type 0 where
    no_members : Members
    one_member : (name : List ℕ) → Data → Members → Members

-- lists of data, of pairs and of fields, as data holds them
abbrev pub values_of : List Data → Values
values_of [] = no_values
values_of (d ∷ ds) = one_value d (values_of ds)

abbrev pub pairs_of : List (Data × Data) → Pairs
pairs_of [] = no_pairs
pairs_of (p ∷ ps) = one_pair p.0 p.1 (pairs_of ps)

-- a field's name and data
abbrev pub Named : Type 0
Named = List ℕ × Data

abbrev pub members_of : List Named → Members
members_of [] = no_members
members_of (m ∷ ms) = one_member m.0 m.1 (members_of ms)
