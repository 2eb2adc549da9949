-- The notation of shapes, which docs/LIBRARY.md describes: which shape a text is, or where parsing it stops, and why.
use Rattle.std.specs.Prelude.{◌≡◌, ◌-◌, ℕ, zero, suc, Bool, true, false, not, ◌||◌, ◌==◌, nat_le, cond, List, [], ◌∷◌, length, take, drop, codes, Option, Some, None}
use Rattle.std.specs.List.{prefix_len}
use Rattle.std.specs.Str.{bytes_eq, is_utf8}
use Rattle.qs_spec.specs.Escape.{decoded, is_between}
use Rattle.qs_spec.specs.Shape.{Shape, Field, fields_of, Variant, variants_of, VariantKind, unit_kind, newtype_kind, tuple_kind, struct_kind, no_shapes, one_shape, shapes_of, UnknownKeys, KeyShape, is_distinct}
use Rattle.qs_c.specs.Found.{Found, found, fault, Parser, and_then, seen}

-- a space, a tab, the end of a line
abbrev pub is_blank : ℕ → Bool
is_blank b = b == 32 || b == 9 || b == 10 || b == 13

-- ASCII letters and digits, `_`, `-`, and bytes beyond ASCII
abbrev pub is_of_word : ℕ → Bool
is_of_word b = is_between 97 122 b || is_between 65 90 b || is_between 48 57 b || b == 95 || b == 45 || nat_le 128 b

-- any byte except `"`
abbrev pub is_no_quote : ℕ → Bool
is_no_quote b = not (b == 34)

-- without the blanks at the front
unfoldable pub trimmed : List ℕ → List ℕ
trimmed t = drop (prefix_len is_blank t) t

-- Blanks are allowed after each sign, word and name, and before the whole.

-- the sign is next
abbrev pub comes : ℕ → List ℕ → Bool
comes sign [] = false
comes sign (b ∷ bs) = b == sign

-- what follows a sign
abbrev pub after_sign : List ℕ → List ℕ
after_sign t = trimmed (drop 1 t)

-- the sign has to be next
abbrev pub wanted : ℕ → List ℕ → Parser (Unit {0})
wanted sign reason t = cond (comes sign t) (found tt (after_sign t)) (fault reason t)

-- the next word, which may be empty
unfoldable pub word : List ℕ → List ℕ
word t = take (prefix_len is_of_word t) t

-- what follows that word
unfoldable pub after_word : List ℕ → List ℕ
after_word t = trimmed (drop (prefix_len is_of_word t) t)

-- a name has to be UTF-8
abbrev pub name_of : List ℕ → Parser (List ℕ)
name_of bytes t = cond (is_utf8 bytes) (found bytes t) (fault (codes "a name isn't UTF-8") t)

-- the text up to the next quote, decoded
unfoldable pub quoted : Parser (List ℕ)
quoted t =
    let n = prefix_len is_no_quote t in
    and_then (wanted 34 (codes "a name has no closing quote") (drop n t)) (λ u rest. name_of (decoded (take n t)) rest)

-- no byte is left
abbrev pub is_empty : List ℕ → Bool
is_empty [] = true
is_empty (b ∷ bs) = false

-- a word as a name
abbrev pub word_name : Parser (List ℕ)
word_name t = cond (is_empty (word t)) (fault (codes "a name is wanted") (after_word t)) (name_of (word t) (after_word t))

-- a name: a word, or a text between two quotes
unfoldable pub name : Parser (List ℕ)
name t = cond (comes 34 t) (quoted (drop 1 t)) (word_name t)

-- an item of a list is followed by a comma, and so by another item, or by the sign that closes the list
unfoldable pub goes_on : ℕ → List ℕ → Parser Bool
goes_on sign reason t = cond (comes 44 t) (found true (after_sign t)) (and_then (wanted sign reason t) (λ u rest. found false rest))

-- a list of at least one item, and at most this number of them
unfoldable pub listed : {A : Type 0} → Parser A → ℕ → List ℕ → ℕ → Parser (List A)
listed one sign reason zero t = fault reason t
listed one sign reason (suc n) t =
    and_then (one t) (λ a rest. and_then (goes_on sign reason rest) (λ more rest. cond more (seen (λ xs. a ∷ xs) (listed one sign reason n rest)) (found (a ∷ []) rest)))

-- a list; it can't have more items than the text has bytes
abbrev pub list_of : {A : Type 0} → Parser A → ℕ → List ℕ → Parser (List A)
list_of one sign reason t = listed one sign reason (length t) t

-- a list that may be empty
abbrev pub maybe_list_of : {A : Type 0} → Parser A → ℕ → List ℕ → Parser (List A)
maybe_list_of one sign reason t = cond (comes sign t) (found [] (after_sign t)) (list_of one sign reason t)

-- an integer, by its bits
abbrev pub integer : {A : Type 0} → (unsigned signed : ℕ → A) → List ℕ → Option A
integer unsigned signed w =
    cond (bytes_eq w (codes "u8")) (Some (unsigned 8)) (cond (bytes_eq w (codes "u16")) (Some (unsigned 16)) (cond (bytes_eq w (codes "u32")) (Some (unsigned 32)) (cond (bytes_eq w (codes "u64")) (Some (unsigned 64))
    (cond (bytes_eq w (codes "i8")) (Some (signed 8)) (cond (bytes_eq w (codes "i16")) (Some (signed 16)) (cond (bytes_eq w (codes "i32")) (Some (signed 32)) (cond (bytes_eq w (codes "i64")) (Some (signed 64)) None)))))))

-- the shape that a single word names
abbrev pub scalar : List ℕ → Option Shape
scalar w =
    cond (bytes_eq w (codes "unit")) (Some Shape.unit) (cond (bytes_eq w (codes "bool")) (Some Shape.boolean) (cond (bytes_eq w (codes "char")) (Some Shape.character)
    (cond (bytes_eq w (codes "text")) (Some Shape.text) (cond (bytes_eq w (codes "bytes")) (Some Shape.bytes) (cond (bytes_eq w (codes "any")) (Some Shape.any)
    (cond (bytes_eq w (codes "ignored")) (Some Shape.ignored) (integer Shape.unsigned Shape.signed w)))))))

-- the shape of a key that a single word names
abbrev pub scalar_key : List ℕ → Option KeyShape
scalar_key w =
    cond (bytes_eq w (codes "bool")) (Some KeyShape.boolean) (cond (bytes_eq w (codes "char")) (Some KeyShape.character) (cond (bytes_eq w (codes "text")) (Some KeyShape.text)
    (integer KeyShape.unsigned KeyShape.signed w)))

-- what was found, or a fault
abbrev pub there : {A : Type 0} → List ℕ → List ℕ → Option A → Found A
there reason t (Some a) = found a t
there reason t None = fault reason t

-- a bracket that has to be next
abbrev pub open_wanted : Parser (Unit {0})
open_wanted t = wanted 40 (codes "`(` is wanted") t

abbrev pub brace_wanted : Parser (Unit {0})
brace_wanted t = wanted 123 (codes "`{` is wanted") t

-- `,` or `)`
abbrev pub comma_or_parenthesis : List ℕ
comma_or_parenthesis = codes "`,` or `)` is wanted"

-- `,` or `}`
abbrev pub comma_or_brace : List ℕ
comma_or_brace = codes "`,` or `}` is wanted"

-- the shape of a map's keys
unfoldable pub key : Parser KeyShape
key t =
    cond (bytes_eq (word t) (codes "enum"))
    (and_then (open_wanted (after_word t)) (λ u rest. seen KeyShape.variants (list_of name 41 comma_or_parenthesis rest)))
    (there (codes "the word before is no shape of a key") (after_word t) (scalar_key (word t)))

-- The parsers below take a parser of the shapes within.

-- what follows a `?`, if there is one
abbrev pub question_mark : List ℕ → List ℕ
question_mark t = cond (comes 63 t) (after_sign t) t

-- a field: its name, `?` if it may be left out, `:` and its shape
unfoldable pub field : Parser Shape → Parser Field
field inner t =
    and_then (name t) (λ n rest. and_then (wanted 58 (codes "`:` is wanted") (question_mark rest)) (λ u value. seen (λ s. (n, s, comes 63 rest)) (inner value)))

-- fields, after the brace that opens them
unfoldable pub fields : Parser Shape → Parser (List Field)
fields inner t = maybe_list_of (field inner) 125 comma_or_brace t

-- shapes, after the parenthesis that opens them
unfoldable pub items : Parser Shape → Parser (List Shape)
items inner t = maybe_list_of inner 41 comma_or_parenthesis t

-- what a variant holds in parentheses: no items, a value, or items, of which the first has a comma after it
unfoldable pub held : Parser Shape → Parser VariantKind
held inner t =
    cond (comes 41 t) (found (tuple_kind no_shapes) (after_sign t))
    (and_then (inner t) (λ s rest. cond (comes 41 rest) (found (newtype_kind s) (after_sign rest))
    (and_then (wanted 44 comma_or_parenthesis rest) (λ u more. seen (λ ss. tuple_kind (one_shape s (shapes_of ss))) (items inner more)))))

-- what a variant holds: fields, what is in parentheses, or nothing
unfoldable pub kind : Parser Shape → Parser VariantKind
kind inner t =
    cond (comes 123 t) (seen (λ fs. struct_kind UnknownKeys.ignored (fields_of fs)) (fields inner (after_sign t)))
    (cond (bytes_eq (word t) (codes "strict")) (and_then (brace_wanted (after_word t)) (λ u rest. seen (λ fs. struct_kind UnknownKeys.rejected (fields_of fs)) (fields inner rest)))
    (cond (comes 40 t) (held inner (after_sign t)) (found unit_kind t)))

-- a variant: its name, and what it holds
unfoldable pub variant : Parser Shape → Parser Variant
variant inner t = and_then (name t) (λ n rest. seen (λ k. (n, k)) (kind inner rest))

-- variants, after the parenthesis that opens them
unfoldable pub variants : Parser Shape → Parser (List Variant)
variants inner t = list_of (variant inner) 41 comma_or_parenthesis t

-- a list, after the bracket that opens it
unfoldable pub list : Parser Shape → Parser Shape
list inner t = and_then (inner t) (λ s rest. and_then (wanted 93 (codes "`]` is wanted") rest) (λ u rest. found (Shape.sequence s) rest))

-- a newtype's value in parentheses
unfoldable pub newtype : Parser Shape → Parser Shape
newtype inner t =
    and_then (open_wanted t) (λ u rest. and_then (inner rest) (λ s rest. and_then (wanted 41 (codes "`)` is wanted") rest) (λ u rest. found (Shape.newtype s) rest)))

-- the key and the value of a map, in parentheses
unfoldable pub map : Parser Shape → Parser Shape
map inner t =
    and_then (open_wanted t) (λ u rest. and_then (key rest) (λ k rest. and_then (wanted 44 (codes "`,` is wanted") rest)
    (λ u rest. and_then (inner rest) (λ s rest. and_then (wanted 41 (codes "`)` is wanted") rest) (λ u rest. found (Shape.mapping k s) rest)))))

-- a shape that begins with this word
unfoldable pub named : Parser Shape → List ℕ → Parser Shape
named inner w t =
    cond (bytes_eq w (codes "map")) (map inner t)
    (cond (bytes_eq w (codes "newtype")) (newtype inner t)
    (cond (bytes_eq w (codes "strict")) (and_then (brace_wanted t) (λ u rest. seen (λ fs. Shape.struct UnknownKeys.rejected (fields_of fs)) (fields inner rest)))
    (cond (bytes_eq w (codes "enum")) (and_then (open_wanted t) (λ u rest. seen (λ vs. Shape.enumeration (variants_of vs)) (variants inner rest)))
    (there (codes "the word before is no shape") t (scalar w)))))

-- a shape without `?` after it
unfoldable pub base : Parser Shape → Parser Shape
base inner t =
    cond (comes 91 t) (list inner (after_sign t))
    (cond (comes 123 t) (seen (λ fs. Shape.struct UnknownKeys.ignored (fields_of fs)) (fields inner (after_sign t)))
    (cond (comes 40 t) (seen (λ ss. Shape.tuple (shapes_of ss)) (items inner (after_sign t)))
    (named inner (word t) (after_word t))))

-- the shape in an option for each `?` that follows, up to this number of them
unfoldable pub options : ℕ → Shape → Parser Shape
options zero s t = found s t
options (suc n) s t = cond (comes 63 t) (options n (Shape.option s) (after_sign t)) (found s t)

-- no level is left
abbrev pub too_deep : Parser Shape
too_deep t = fault (codes "the shape nests more than 32 levels") t

-- a shape whose parts nest at most `n` levels deep
abbrev pub level : ℕ → Parser Shape → Parser Shape
level n inner t = and_then (base inner t) (options n)

-- a shape that nests at most this many levels deep
unfoldable pub shape : ℕ → Parser Shape
shape zero = too_deep
shape (suc n) = level n (shape n)

-- nothing may follow the shape, and its names have to differ
abbrev pub whole : Shape → List ℕ → Found Shape
whole s rest = cond (is_empty rest) (cond (is_distinct s) (found s rest) (fault (codes "two fields or variants have the same name") rest)) (fault (codes "the shape has ended here") rest)

-- the shape that a text is
abbrev pub notation : Parser Shape
notation text = and_then (shape 32 (trimmed text)) whole

-- the text is this shape
abbrev pub IsNotation : List ℕ → Shape → Type 0
IsNotation text s = notation text ≡ found s []

-- The text isn't a shape, for this reason; `position` is the number of bytes before the rest that wasn't parsed.
pub record IsNoNotation (text reason : List ℕ) (position : ℕ) : Type 0 where
  pub rest : List ℕ
  pub stops : notation text ≡ fault reason rest
  pub is_before : position ≡ length text - length rest
