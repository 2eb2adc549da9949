-- What a text of several parts is, from what its parts are: found, or a fault where the first part has one.
use Rattle.std.proofs.Common.{◌≡◌, ℕ, List, [], ◌∷◌, Bool, true, false, codes, refl, ap, sym, ◌∙◌}
use Rattle.std.specs.Str.{bytes_eq}
use Rattle.qs_spec.specs.Shape.{Shape, Field, Variant, KeyShape, UnknownKeys, fields_of, variants_of, shapes_of, newtype_kind, tuple_kind, struct_kind}
use Rattle.qs_c.specs.Found.{found, fault, Parser, before}
use Rattle.qs_c.specs.Notation as n
use Rattle.qs_c.proofs.Found.{cond-false, cond-true, seen-fault, seen-found, then-fault, then-found}
use Rattle.qs_c.proofs.Stopping.{before-fault}
use Rattle.qs_c.proofs.Listing.{items-after}

module _ (inner : Parser Shape) (t : List ℕ) where
  -- a list: the shape of its items and a bracket
  module _ (s : Shape) (a : List ℕ) (first : inner t ≡ found s a) where
    pub list-found : (b : List ℕ) → n.wanted 93 (codes "`]` is wanted") a ≡ found tt b → n.list inner t ≡ found (Shape.sequence s) b
    unfolding n.list
    list-found b close = then-found _ _ _ s a first (then-found _ _ _ tt b close refl)

    pub list-close : (why r : List ℕ) → n.wanted 93 (codes "`]` is wanted") a ≡ fault why r → n.list inner t ≡ fault why r
    unfolding n.list
    list-close why r e = then-found _ _ _ s a first (then-fault _ _ why r e)

  -- a newtype: a shape in parentheses
  module _ (a : List ℕ) (opened : n.open_wanted t ≡ found tt a) where
    pub newtype-shape : (why r : List ℕ) → inner a ≡ fault why r → n.newtype inner t ≡ fault why r
    unfolding n.newtype
    newtype-shape why r e = then-found _ _ _ tt a opened (then-fault _ _ why r e)

    module _ (s : Shape) (b : List ℕ) (held : inner a ≡ found s b) where
      pub newtype-found : (e : List ℕ) → n.wanted 41 (codes "`)` is wanted") b ≡ found tt e → n.newtype inner t ≡ found (Shape.newtype s) e
      unfolding n.newtype
      newtype-found e close = then-found _ _ _ tt a opened (then-found _ _ _ s b held (then-found _ _ _ tt e close refl))

      pub newtype-close : (why r : List ℕ) → n.wanted 41 (codes "`)` is wanted") b ≡ fault why r → n.newtype inner t ≡ fault why r
      unfolding n.newtype
      newtype-close why r e = then-found _ _ _ tt a opened (then-found _ _ _ s b held (then-fault _ _ why r e))

    -- a map: the shape of its keys, a comma and the shape of its values
    pub map-key : (why r : List ℕ) → n.key a ≡ fault why r → n.map inner t ≡ fault why r
    unfolding n.map
    map-key why r e = then-found _ _ _ tt a opened (then-fault _ _ why r e)

    module _ (k : KeyShape) (b : List ℕ) (keys : n.key a ≡ found k b) where
      pub map-comma : (why r : List ℕ) → n.wanted 44 (codes "`,` is wanted") b ≡ fault why r → n.map inner t ≡ fault why r
      unfolding n.map
      map-comma why r e = then-found _ _ _ tt a opened (then-found _ _ _ k b keys (then-fault _ _ why r e))

      module _ (d : List ℕ) (comma : n.wanted 44 (codes "`,` is wanted") b ≡ found tt d) where
        pub map-value : (why r : List ℕ) → inner d ≡ fault why r → n.map inner t ≡ fault why r
        unfolding n.map
        map-value why r e = then-found _ _ _ tt a opened (then-found _ _ _ k b keys (then-found _ _ _ tt d comma (then-fault _ _ why r e)))

        module _ (s : Shape) (e : List ℕ) (value : inner d ≡ found s e) where
          pub map-found : (g : List ℕ) → n.wanted 41 (codes "`)` is wanted") e ≡ found tt g → n.map inner t ≡ found (Shape.mapping k s) g
          unfolding n.map
          map-found g close = then-found _ _ _ tt a opened (then-found _ _ _ k b keys (then-found _ _ _ tt d comma (then-found _ _ _ s e value (then-found _ _ _ tt g close refl))))

          pub map-close : (why r : List ℕ) → n.wanted 41 (codes "`)` is wanted") e ≡ fault why r → n.map inner t ≡ fault why r
          unfolding n.map
          map-close why r h = then-found _ _ _ tt a opened (then-found _ _ _ k b keys (then-found _ _ _ tt d comma (then-found _ _ _ s e value (then-fault _ _ why r h))))

  -- a field: its name, perhaps a question mark, a colon and its shape
  module _ (name a m : List ℕ) (named : n.name t ≡ found name a) (question : m ≡ n.question_mark a) where
    pub field-colon : (why r : List ℕ) → n.wanted 58 (codes "`:` is wanted") m ≡ fault why r → n.field inner t ≡ fault why r
    unfolding n.field
    field-colon why r e = then-found _ _ _ name a named (then-fault _ _ why r (ap (n.wanted 58 (codes "`:` is wanted")) (sym question) ∙ e))

    module _ (b : List ℕ) (colon : n.wanted 58 (codes "`:` is wanted") m ≡ found tt b) where
      opened : n.wanted 58 (codes "`:` is wanted") (n.question_mark a) ≡ found tt b
      opened = ap (n.wanted 58 (codes "`:` is wanted")) (sym question) ∙ colon

      pub field-found : (s : Shape) (d : List ℕ) (optional : Bool) → inner b ≡ found s d → optional ≡ n.comes 63 a → n.field inner t ≡ found (name, s, optional) d
      unfolding n.field
      field-found s d optional value is = then-found _ _ _ name a named (then-found _ _ _ tt b opened (seen-found _ _ s d value ∙ ap (λ o. found (name, s, o) d) (sym is)))

      pub field-shape : (why r : List ℕ) → inner b ≡ fault why r → n.field inner t ≡ fault why r
      unfolding n.field
      field-shape why r e = then-found _ _ _ name a named (then-found _ _ _ tt b opened (seen-fault _ _ why r e))

  -- what a variant holds in parentheses: a value, or items after the first and a comma
  module _ (x : Shape) (a : List ℕ) (none : n.comes 41 t ≡ false) (first : inner t ≡ found x a) where
    pub held-value : (b : List ℕ) → n.comes 41 a ≡ true → n.after_sign a ≡ b → n.held inner t ≡ found (newtype_kind x) b
    unfolding n.held
    held-value b here rest = cond-false (n.comes 41 t) _ _ _ none (then-found _ _ _ x a first (cond-true (n.comes 41 a) _ _ _ here (ap (found (newtype_kind x)) rest)))

    module _ (absent : n.comes 41 a ≡ false) where
      pub held-comma : (m : List ℕ) → m ≡ a → (why r : List ℕ) → n.wanted 44 n.comma_or_parenthesis m ≡ fault why r → n.held inner t ≡ fault why r
      unfolding n.held
      held-comma m same why r e =
          cond-false (n.comes 41 t) _ _ _ none (then-found _ _ _ x a first (cond-false (n.comes 41 a) _ _ _ absent (then-fault _ _ why r (ap (n.wanted 44 n.comma_or_parenthesis) (sym same) ∙ e))))

      module _ (b : List ℕ) (comma : n.wanted 44 n.comma_or_parenthesis a ≡ found tt b) where
        pub held-items : (xs : List Shape) (e : List ℕ) → before (x ∷ []) (n.items inner b) ≡ found xs e → n.held inner t ≡ found (tuple_kind (shapes_of xs)) e
        unfolding n.held
        held-items xs e parts =
            cond-false (n.comes 41 t) _ _ _ none (then-found _ _ _ x a first (cond-false (n.comes 41 a) _ _ _ absent (then-found _ _ _ tt b comma (items-after x (n.items inner b) xs e parts))))

        pub held-item : (front : List Shape) (why r : List ℕ) → before front (n.items inner b) ≡ fault why r → n.held inner t ≡ fault why r
        unfolding n.held
        held-item front why r e =
            cond-false (n.comes 41 t) _ _ _ none (then-found _ _ _ x a first
            (cond-false (n.comes 41 a) _ _ _ absent (then-found _ _ _ tt b comma (seen-fault _ _ why r (before-fault front (n.items inner b) why r e)))))

  -- fields, as what a variant holds and as a shape
  pub kind-fields : (fs : List Field) (e : List ℕ) → n.comes 123 t ≡ true → n.fields inner (n.after_sign t) ≡ found fs e → n.kind inner t ≡ found (struct_kind UnknownKeys.ignored (fields_of fs)) e
  unfolding n.kind
  kind-fields fs e here h = cond-true (n.comes 123 t) _ _ _ here (seen-found _ _ fs e h)

  module _ (a : List ℕ) (absent : n.comes 123 t ≡ false) (here : bytes_eq (n.word t) (codes "strict") ≡ true) (opened : n.brace_wanted (n.after_word t) ≡ found tt a) where
    pub kind-strict : (fs : List Field) (e : List ℕ) → n.fields inner a ≡ found fs e → n.kind inner t ≡ found (struct_kind UnknownKeys.rejected (fields_of fs)) e
    unfolding n.kind
    kind-strict fs e h = cond-false (n.comes 123 t) _ _ _ absent (cond-true (bytes_eq (n.word t) (codes "strict")) _ _ _ here (then-found _ _ _ tt a opened (seen-found _ _ fs e h)))

    pub kind-strict-fault : (why r : List ℕ) → n.fields inner a ≡ fault why r → n.kind inner t ≡ fault why r
    unfolding n.kind
    kind-strict-fault why r h = cond-false (n.comes 123 t) _ _ _ absent (cond-true (bytes_eq (n.word t) (codes "strict")) _ _ _ here (then-found _ _ _ tt a opened (seen-fault _ _ why r h)))

  pub base-fields : (fs : List Field) (e : List ℕ) → n.comes 91 t ≡ false → n.comes 123 t ≡ true → n.fields inner (n.after_sign t) ≡ found fs e → n.base inner t ≡ found (Shape.struct UnknownKeys.ignored (fields_of fs)) e
  unfolding n.base
  base-fields fs e absent here h = cond-false (n.comes 91 t) _ _ _ absent (cond-true (n.comes 123 t) _ _ _ here (seen-found _ _ fs e h))

  pub base-items : (ss : List Shape) (e : List ℕ) → n.comes 91 t ≡ false → n.comes 123 t ≡ false → n.comes 40 t ≡ true → n.items inner (n.after_sign t) ≡ found ss e → n.base inner t ≡ found (Shape.tuple (shapes_of ss)) e
  unfolding n.base
  base-items ss e list absent here h = cond-false (n.comes 91 t) _ _ _ list (cond-false (n.comes 123 t) _ _ _ absent (cond-true (n.comes 40 t) _ _ _ here (seen-found _ _ ss e h)))

  -- a shape that begins with a word
  module _ (w a : List ℕ) (map : bytes_eq w (codes "map") ≡ false) (newtype : bytes_eq w (codes "newtype") ≡ false) where
    module _ (here : bytes_eq w (codes "strict") ≡ true) (opened : n.brace_wanted t ≡ found tt a) where
      pub named-strict : (fs : List Field) (e : List ℕ) → n.fields inner a ≡ found fs e → n.named inner w t ≡ found (Shape.struct UnknownKeys.rejected (fields_of fs)) e
      unfolding n.named
      named-strict fs e h = cond-false (bytes_eq w (codes "map")) _ _ _ map (cond-false (bytes_eq w (codes "newtype")) _ _ _ newtype
          (cond-true (bytes_eq w (codes "strict")) _ _ _ here (then-found _ _ _ tt a opened (seen-found _ _ fs e h))))

      pub named-strict-fault : (why r : List ℕ) → n.fields inner a ≡ fault why r → n.named inner w t ≡ fault why r
      unfolding n.named
      named-strict-fault why r h = cond-false (bytes_eq w (codes "map")) _ _ _ map (cond-false (bytes_eq w (codes "newtype")) _ _ _ newtype
          (cond-true (bytes_eq w (codes "strict")) _ _ _ here (then-found _ _ _ tt a opened (seen-fault _ _ why r h))))

    module _ (strict : bytes_eq w (codes "strict") ≡ false) (here : bytes_eq w (codes "enum") ≡ true) (opened : n.open_wanted t ≡ found tt a) where
      pub named-enum : (vs : List Variant) (e : List ℕ) → n.variants inner a ≡ found vs e → n.named inner w t ≡ found (Shape.enumeration (variants_of vs)) e
      unfolding n.named
      named-enum vs e h = cond-false (bytes_eq w (codes "map")) _ _ _ map (cond-false (bytes_eq w (codes "newtype")) _ _ _ newtype (cond-false (bytes_eq w (codes "strict")) _ _ _ strict
          (cond-true (bytes_eq w (codes "enum")) _ _ _ here (then-found _ _ _ tt a opened (seen-found _ _ vs e h)))))

      pub named-enum-fault : (why r : List ℕ) → n.variants inner a ≡ fault why r → n.named inner w t ≡ fault why r
      unfolding n.named
      named-enum-fault why r h = cond-false (bytes_eq w (codes "map")) _ _ _ map (cond-false (bytes_eq w (codes "newtype")) _ _ _ newtype (cond-false (bytes_eq w (codes "strict")) _ _ _ strict
          (cond-true (bytes_eq w (codes "enum")) _ _ _ here (then-found _ _ _ tt a opened (seen-fault _ _ why r h)))))
