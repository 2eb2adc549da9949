use Rattle.std.proofs.Common.{◌≡◌, ◌+◌, ◌-◌, [], ◌∷◌, ap, sym, subst, ◌∙◌, map, length, string_bytes, true, codes, arith, rules}
use Rattle.std.proofs.lemmas.Grind.{common_steps}
use Rattle.qs_spec.specs.Shape as s
use Rattle.qs_data.specs.declared.shape.shape.Field as f
use Rattle.qs_data.specs.declared.shape.shape.Shape as r
use Rattle.qs_data.specs.declared.shape.shape.Variant as v
use Rattle.qs_data.specs.declared.shape.shape.VariantKind as k
use Rattle.qs_data.specs.shape.Views.{field_of, key_shape_of, kind_of, shape_of, variant_of}
use Rattle.qs_c.specs.Found.{found, before}
use Rattle.qs_c.specs.Notation as n
use Rattle.qs_c.specs.internal.Parses.{Parses}
use Rattle.qs_c.proofs.Composed.{list-found, list-close, newtype-found, newtype-shape, newtype-close, map-found, map-key, map-comma, map-value, map-close, field-found, field-colon, field-shape, held-value, held-comma, held-items, held-item, kind-fields, kind-strict, kind-strict-fault, base-fields, base-items, named-strict, named-strict-fault, named-enum, named-enum-fault}
use Rattle.qs_c.proofs.Found.{seen-fault, seen-found, then-found}
use Rattle.qs_c.proofs.Stopping.{exits, shape-fault, turn-fault, turn-none, turn-sign}
use Rattle.qs_c.proofs.Listing.{before-nil, fields-whole, items-none, items-whole, shape-below, turned-last, turned-more}
use Rattle.qs_c.proofs.notation.+shape.Goals as goal

pub shapes::shape-returns : goal.shapes::shape-returns
shapes::shape-returns t c =
    let whole = shape-below c.args.levels (c.args.levels - 1) c.args.cursor.now.rest.now (shape_of c.in_ok-shape.shape) c.base.new.cursor.rest.now (omega arith) c.in_ok-shape.ensures in
    subst (λ x. Parses shape_of x c.options.result c.options.new.cursor.rest.now) (sym whole) c.options.ensures

pub shapes::list-returns : goal.shapes::list-returns
shapes::list-returns t c =
    let a = c.shape.new.cursor.rest.now in
    let b = c.expect.new.self.rest.now in
    let seen : shape_of (r.Seq c.in_ok-new.field-0) ≡ s.Shape.sequence (shape_of c.in_ok-new.field-0.value) = search (rules, r.the_lemmas) in
    let held : c.in_ok-new.field-0.value ≡ c.in_ok-item.item = grind arith in
    list-found (n.shape c.args.levels) c.args.cursor.now.rest.now (shape_of c.in_ok-item.item) a c.in_ok-item.ensures b c.in_ok-expect.ensures
    ∙ ap (λ x. found x b) (sym (seen ∙ ap (λ x. s.Shape.sequence (shape_of x)) held))

pub shapes::newtype-returns : goal.shapes::newtype-returns
shapes::newtype-returns t c =
    let e = c.expect-2.new.self.rest.now in
    let seen : shape_of (r.Newtype c.in_ok-new.field-0) ≡ s.Shape.newtype (shape_of c.in_ok-new.field-0.value) = search (rules, r.the_lemmas) in
    let held : c.in_ok-new.field-0.value ≡ c.in_ok-inner.inner = grind arith in
    newtype-found (n.shape c.args.levels) c.args.cursor.now.rest.now c.expect.new.self.rest.now c.in_ok-expect.ensures (shape_of c.in_ok-inner.inner) c.shape.new.cursor.rest.now c.in_ok-inner.ensures e c.in_ok-expect-2.ensures
    ∙ ap (λ x. found x e) (sym (seen ∙ ap (λ x. s.Shape.newtype (shape_of x)) held))

pub shapes::map-returns : goal.shapes::map-returns
shapes::map-returns t c =
    let key = key_shape_of c.in_ok-key.key in
    let g = c.expect-3.new.self.rest.now in
    let seen : shape_of (r.Map c.in_ok-key.key c.in_ok-new.field-0) ≡ s.Shape.mapping key (shape_of c.in_ok-new.field-0.value) = search (rules, r.the_lemmas) in
    let held : c.in_ok-new.field-0.value ≡ c.in_ok-value.value = grind arith in
    map-found (n.shape c.args.levels) c.args.cursor.now.rest.now c.expect.new.self.rest.now c.in_ok-expect.ensures key c.map_key.new.cursor.rest.now c.in_ok-key.ensures c.expect-2.new.self.rest.now c.in_ok-expect-2.ensures
    (shape_of c.in_ok-value.value) c.shape.new.cursor.rest.now c.in_ok-value.ensures g c.in_ok-expect-3.ensures ∙ ap (λ x. found x g) (sym (seen ∙ ap (λ x. s.Shape.mapping key (shape_of x)) held))

pub shapes::field-returns : goal.shapes::field-returns
shapes::field-returns t c =
    let d = c.shape.new.cursor.rest.now in
    let seen : field_of (f.roll-Field record { name = c.in_ok-name.name; shape = c.in_ok-shape.shape; optional = c.take-optional.result })
    ≡ (string_bytes c.in_ok-name.name, shape_of c.in_ok-shape.shape, c.take-optional.result) = search (rules, f.the_lemmas) in
    field-found (n.shape c.args.levels) c.args.cursor.now.rest.now (string_bytes c.in_ok-name.name) c.name.new.self.rest.now c.take-optional.new.self.rest.now c.in_ok-name.ensures (grind arith)
    c.expect.new.self.rest.now c.in_ok-expect.ensures (shape_of c.in_ok-shape.shape) d c.take-optional.result c.in_ok-shape.ensures c.take-optional.ensures.comes ∙ ap (λ x. found x d) (sym seen)

pub shapes::items-returns-then-take : goal.shapes::items-returns-then-take
shapes::items-returns-then-take t c =
    let start = c.args.cursor.now.rest.now in
    let comes : n.comes 41 start ≡ true = grind arith in
    let rest : n.after_sign start ≡ c.take.new.self.rest.now = grind arith in
    items-none (n.shape c.args.levels) (map shape_of c.args.items.items) start comes ∙ ap (found (map shape_of c.args.items.items)) rest

pub shapes::items-returns-then-not-branch : goal.shapes::items-returns-then-not-branch
shapes::items-returns-then-not-branch t c =
    let l = c.loop-at in
    let taken = c.take.new.self.rest.now in
    let whole = items-whole (n.shape c.args.levels) (map shape_of c.args.items.items) c.args.cursor.now.rest.now taken _ (grind arith) (grind arith) l.invariant in
    turned-last (n.shape c.args.levels) 41 n.comma_or_parenthesis (before (map shape_of c.args.items.items) (n.items (n.shape c.args.levels) c.args.cursor.now.rest.now)) (map shape_of l.items.items) (map shape_of c.push.new.self.items)
    (length taken - l.at) l.cursor.rest.now (shape_of c.in_ok-shape.field-0) c.shape.new.cursor.rest.now c.goes_on.new.self.rest.now whole (grind (arith, common_steps)) (omega arith) (grind arith) (grind arith)

pub shapes::items-loop-at-preserved : goal.shapes::items-loop-at-preserved
shapes::items-loop-at-preserved t c =
    let l = c.loop-at in
    let start = c.take.new.self.rest.now in
    turned-more (n.shape c.args.levels) 41 n.comma_or_parenthesis (before (map shape_of c.args.items.items) (n.listed (n.shape c.args.levels) 41 n.comma_or_parenthesis (length start) start)) (map shape_of l.items.items) (map shape_of c.push.new.self.items) (length start - l.at) (length start - (l.at + 1)) l.cursor.rest.now
    (shape_of c.in_ok-shape.field-0) c.shape.new.cursor.rest.now c.goes_on.new.self.rest.now l.invariant (grind (arith, common_steps)) (omega arith) (grind arith) (grind arith)

pub shapes::fields-returns-then-not-branch : goal.shapes::fields-returns-then-not-branch
shapes::fields-returns-then-not-branch t c =
    let l = c.loop-at in
    let taken = c.take.new.self.rest.now in
    let whole = fields-whole (n.shape c.args.levels) c.args.cursor.now.rest.now taken _ (grind arith) (grind arith) l.invariant in
    turned-last (n.field (n.shape c.args.levels)) 125 n.comma_or_brace (n.fields (n.shape c.args.levels) c.args.cursor.now.rest.now) (map field_of l.fields.items) (map field_of c.push.new.self.items) (length taken - l.at) l.cursor.rest.now
    (field_of c.in_ok-field.field-0) c.field.new.cursor.rest.now c.goes_on.new.self.rest.now whole (grind (arith, common_steps)) (omega arith) (grind arith) (grind arith)

pub shapes::fields-loop-at-preserved : goal.shapes::fields-loop-at-preserved
shapes::fields-loop-at-preserved t c =
    let l = c.loop-at in
    let start = c.take.new.self.rest.now in
    turned-more (n.field (n.shape c.args.levels)) 125 n.comma_or_brace (n.listed (n.field (n.shape c.args.levels)) 125 n.comma_or_brace (length start) start) (map field_of l.fields.items) (map field_of c.push.new.self.items) (length start - l.at) (length start - (l.at + 1)) l.cursor.rest.now
    (field_of c.in_ok-field.field-0) c.field.new.cursor.rest.now c.goes_on.new.self.rest.now l.invariant (grind (arith, common_steps)) (omega arith) (grind arith) (grind arith)

pub variants::variants-returns-then-not-branch : goal.variants::variants-returns-then-not-branch
unfolding n.variants
variants::variants-returns-then-not-branch t c =
    let l = c.loop-at in
    let start = c.args.cursor.now.rest.now in
    turned-last (n.variant (n.shape c.args.levels)) 41 n.comma_or_parenthesis (n.variants (n.shape c.args.levels) start) (map variant_of l.variants.items) (map variant_of c.push.new.self.items) (length start - l.at) l.cursor.rest.now
    (variant_of c.in_ok-variant.field-0) c.variant.new.cursor.rest.now c.goes_on.new.self.rest.now l.invariant (grind (arith, common_steps)) (omega arith) (grind arith) (grind arith)

pub variants::variants-loop-at-preserved : goal.variants::variants-loop-at-preserved
variants::variants-loop-at-preserved t c =
    let l = c.loop-at in
    let start = c.args.cursor.now.rest.now in
    turned-more (n.variant (n.shape c.args.levels)) 41 n.comma_or_parenthesis (n.listed (n.variant (n.shape c.args.levels)) 41 n.comma_or_parenthesis (length start) start) (map variant_of l.variants.items) (map variant_of c.push.new.self.items) (length start - l.at) (length start - (l.at + 1)) l.cursor.rest.now
    (variant_of c.in_ok-variant.field-0) c.variant.new.cursor.rest.now c.goes_on.new.self.rest.now l.invariant (grind (arith, common_steps)) (omega arith) (grind arith) (grind arith)

pub variants::variant-returns : goal.variants::variant-returns
unfolding n.variant
variants::variant-returns t c =
    let a = c.name.new.self.rest.now in
    let b = c.kind.new.cursor.rest.now in
    let seen : variant_of (v.roll-Variant record { name = c.in_ok-name.name; kind = c.in_ok-kind.kind }) ≡ (string_bytes c.in_ok-name.name, kind_of c.in_ok-kind.kind) = search (rules, v.the_lemmas) in
    then-found _ _ _ (string_bytes c.in_ok-name.name) a c.in_ok-name.ensures (seen-found _ _ _ b c.in_ok-kind.ensures ∙ ap (λ x. found x b) (sym seen))

pub variants::held-returns : goal.variants::held-returns
variants::held-returns t c =
    let x = shape_of c.in_ok-first.first in
    let b = c.expect.new.self.rest.now in
    let e = c.items.new.cursor.rest.now in
    let filled = c.in_ok-items.field-0 in
    let pushed : map shape_of c.push.new.self.items ≡ x ∷ [] = grind (arith, common_steps) in
    let parts = ap (λ xs. before xs (n.items (n.shape c.args.levels) b)) (sym pushed) ∙ c.in_ok-items.ensures in
    let seen : kind_of (k.Tuple filled) ≡ s.tuple_kind (s.shapes_of (map shape_of filled.items)) = search (rules, k.the_lemmas) in
    held-items (n.shape c.args.levels) c.args.cursor.now.rest.now x c.shape.new.cursor.rest.now (grind arith) (grind arith) (grind arith) b (grind arith) (map shape_of filled.items) e parts
    ∙ ap (λ y. found y e) (sym seen)

pub variants::held-returns-then-take-2 : goal.variants::held-returns-then-take-2
variants::held-returns-then-take-2 t c =
    let b = c.take-2.new.self.rest.now in
    let seen : kind_of (k.Newtype c.in_ok-new.field-0) ≡ s.newtype_kind (shape_of c.in_ok-new.field-0.value) = search (rules, k.the_lemmas) in
    let held : c.in_ok-new.field-0.value ≡ c.in_ok-first.first = grind arith in
    held-value (n.shape c.args.levels) c.args.cursor.now.rest.now (shape_of c.in_ok-first.first) c.shape.new.cursor.rest.now (grind arith) (grind arith) b (grind arith) (grind arith)
    ∙ ap (λ y. found y b) (sym (seen ∙ ap (λ y. s.newtype_kind (shape_of y)) held))

pub variants::kind-returns-then-take : goal.variants::kind-returns-then-take
variants::kind-returns-then-take t c =
    let e = c.fields.new.cursor.rest.now in
    let fs = c.in_ok-fields.field-0 in
    let seen : kind_of (k.Struct fs) ≡ s.struct_kind s.UnknownKeys.ignored (s.fields_of (map field_of fs.items)) = search (rules, k.the_lemmas) in
    kind-fields (n.shape c.args.levels) c.args.cursor.now.rest.now (map field_of fs.items) e (grind arith) (grind arith) ∙ ap (λ y. found y e) (sym seen)

pub variants::kind-returns-then-take_word : goal.variants::kind-returns-then-take_word
variants::kind-returns-then-take_word t c =
    let e = c.fields-then-take_word.new.cursor.rest.now in
    let fs = c.in_ok-fields-2.field-0 in
    let seen : kind_of (k.StrictStruct fs) ≡ s.struct_kind s.UnknownKeys.rejected (s.fields_of (map field_of fs.items)) = search (rules, k.the_lemmas) in
    kind-strict (n.shape c.args.levels) c.args.cursor.now.rest.now c.expect.new.self.rest.now (grind arith) (grind arith) (grind arith) (map field_of fs.items) e (grind arith) ∙ ap (λ y. found y e) (sym seen)

pub shapes::base-returns-then-take-2 : goal.shapes::base-returns-then-take-2
shapes::base-returns-then-take-2 t c =
    let e = c.fields.new.cursor.rest.now in
    let fs = c.in_ok-fields.field-0 in
    let seen : shape_of (r.Struct fs) ≡ s.Shape.struct s.UnknownKeys.ignored (s.fields_of (map field_of fs.items)) = search (rules, r.the_lemmas) in
    base-fields (n.shape c.args.levels) c.args.cursor.now.rest.now (map field_of fs.items) e (grind arith) (grind arith) (grind arith) ∙ ap (λ y. found y e) (sym seen)

pub shapes::base-returns-then-take-3 : goal.shapes::base-returns-then-take-3
shapes::base-returns-then-take-3 t c =
    let start = c.args.cursor.now.rest.now in
    let inner = n.shape c.args.levels in
    let e = c.items.new.cursor.rest.now in
    let xs = c.in_ok-items.field-0 in
    let rest : c.take-3.new.self.rest.now ≡ n.after_sign start = grind arith in
    let empty : map shape_of c.new.result.items ≡ [] = grind (arith, common_steps) in
    let parsed : n.items inner (n.after_sign start) ≡ found (map shape_of xs.items) e =
    ap (n.items inner) (sym rest) ∙ before-nil (n.items inner c.take-3.new.self.rest.now) ∙ ap (λ ys. before ys (n.items inner c.take-3.new.self.rest.now)) (sym empty) ∙ c.in_ok-items.ensures in
    let seen : shape_of (r.Tuple xs) ≡ s.Shape.tuple (s.shapes_of (map shape_of xs.items)) = search (rules, r.the_lemmas) in
    base-items inner start (map shape_of xs.items) e (grind arith) (grind arith) (grind arith) parsed ∙ ap (λ y. found y e) (sym seen)

pub shapes::named-returns-then-eq-3 : goal.shapes::named-returns-then-eq-3
shapes::named-returns-then-eq-3 t c =
    let e = c.fields.new.cursor.rest.now in
    let fs = c.in_ok-fields.field-0 in
    let seen : shape_of (r.StrictStruct fs) ≡ s.Shape.struct s.UnknownKeys.rejected (s.fields_of (map field_of fs.items)) = search (rules, r.the_lemmas) in
    named-strict (n.shape c.args.levels) c.args.cursor.now.rest.now c.args.word.now c.expect.new.self.rest.now (grind arith) (grind arith) (grind arith) c.in_ok-expect.ensures (map field_of fs.items) e c.in_ok-fields.ensures
    ∙ ap (λ y. found y e) (sym seen)

pub shapes::named-returns-then-eq-4 : goal.shapes::named-returns-then-eq-4
shapes::named-returns-then-eq-4 t c =
    let e = c.variants.new.cursor.rest.now in
    let vs = c.in_ok-variants.field-0 in
    let seen : shape_of (r.Enum vs) ≡ s.Shape.enumeration (s.variants_of (map variant_of vs.items)) = search (rules, r.the_lemmas) in
    named-enum (n.shape c.args.levels) c.args.cursor.now.rest.now c.args.word.now c.expect-then-eq-4.new.self.rest.now (grind arith) (grind arith) (grind arith) (grind arith) c.in_ok-expect-2.ensures (map variant_of vs.items) e
    c.in_ok-variants.ensures ∙ ap (λ y. found y e) (sym seen)

pub shapes::shape-returns-in_err-shape : goal.shapes::shape-returns-in_err-shape
shapes::shape-returns-in_err-shape t c =
    let start = c.args.cursor.now.rest.now in
    let below = n.base (n.shape (c.args.levels - 1)) start in
    exits shape_of c.from_residual.result below (n.shape c.args.levels start) c.in_err-shape.field-0.0 c.base.new.cursor.rest.now c.from_residual.ensures.1 c.in_err-shape.ensures
    (λ w q e. shape-fault c.args.levels (c.args.levels - 1) start w q (omega arith) e)

pub shapes::list-returns-in_err-expect : goal.shapes::list-returns-in_err-expect
shapes::list-returns-in_err-expect t c =
    exits shape_of c.from_residual-in_err-expect.result (n.wanted 93 (codes "`]` is wanted") c.shape.new.cursor.rest.now) (n.list (n.shape c.args.levels) c.args.cursor.now.rest.now) c.in_err-expect.field-0.0 c.expect.new.self.rest.now c.from_residual-in_err-expect.ensures.1 c.in_err-expect.ensures
    (list-close (n.shape c.args.levels) c.args.cursor.now.rest.now (shape_of c.in_ok-item.item) c.shape.new.cursor.rest.now c.in_ok-item.ensures)

pub shapes::newtype-returns-in_err-inner : goal.shapes::newtype-returns-in_err-inner
shapes::newtype-returns-in_err-inner t c =
    exits shape_of c.from_residual-in_err-inner.result (n.shape c.args.levels c.expect.new.self.rest.now) (n.newtype (n.shape c.args.levels) c.args.cursor.now.rest.now) c.in_err-inner.field-0.0 c.shape.new.cursor.rest.now c.from_residual-in_err-inner.ensures.1 c.in_err-inner.ensures
    (newtype-shape (n.shape c.args.levels) c.args.cursor.now.rest.now c.expect.new.self.rest.now c.in_ok-expect.ensures)

pub shapes::newtype-returns-in_err-expect-2 : goal.shapes::newtype-returns-in_err-expect-2
shapes::newtype-returns-in_err-expect-2 t c =
    exits shape_of c.from_residual-in_err-expect-2.result (n.wanted 41 (codes "`)` is wanted") c.shape.new.cursor.rest.now) (n.newtype (n.shape c.args.levels) c.args.cursor.now.rest.now) c.in_err-expect-2.field-0.0 c.expect-2.new.self.rest.now c.from_residual-in_err-expect-2.ensures.1 c.in_err-expect-2.ensures
    (newtype-close (n.shape c.args.levels) c.args.cursor.now.rest.now c.expect.new.self.rest.now c.in_ok-expect.ensures (shape_of c.in_ok-inner.inner) c.shape.new.cursor.rest.now c.in_ok-inner.ensures)

pub shapes::map-returns-in_err-key : goal.shapes::map-returns-in_err-key
shapes::map-returns-in_err-key t c =
    exits shape_of c.from_residual-in_err-key.result (n.key c.expect.new.self.rest.now) (n.map (n.shape c.args.levels) c.args.cursor.now.rest.now) c.in_err-key.field-0.0 c.map_key.new.cursor.rest.now c.from_residual-in_err-key.ensures.1 c.in_err-key.ensures
    (map-key (n.shape c.args.levels) c.args.cursor.now.rest.now c.expect.new.self.rest.now c.in_ok-expect.ensures)

pub shapes::map-returns-in_err-expect-2 : goal.shapes::map-returns-in_err-expect-2
shapes::map-returns-in_err-expect-2 t c =
    exits shape_of c.from_residual-in_err-expect-2.result (n.wanted 44 (codes "`,` is wanted") c.map_key.new.cursor.rest.now) (n.map (n.shape c.args.levels) c.args.cursor.now.rest.now) c.in_err-expect-2.field-0.0 c.expect-2.new.self.rest.now c.from_residual-in_err-expect-2.ensures.1 c.in_err-expect-2.ensures
    (map-comma (n.shape c.args.levels) c.args.cursor.now.rest.now c.expect.new.self.rest.now c.in_ok-expect.ensures (key_shape_of c.in_ok-key.key) c.map_key.new.cursor.rest.now c.in_ok-key.ensures)

pub shapes::map-returns-in_err-value : goal.shapes::map-returns-in_err-value
shapes::map-returns-in_err-value t c =
    exits shape_of c.from_residual-in_err-value.result (n.shape c.args.levels c.expect-2.new.self.rest.now) (n.map (n.shape c.args.levels) c.args.cursor.now.rest.now) c.in_err-value.field-0.0 c.shape.new.cursor.rest.now c.from_residual-in_err-value.ensures.1 c.in_err-value.ensures
    (map-value (n.shape c.args.levels) c.args.cursor.now.rest.now c.expect.new.self.rest.now c.in_ok-expect.ensures (key_shape_of c.in_ok-key.key) c.map_key.new.cursor.rest.now c.in_ok-key.ensures c.expect-2.new.self.rest.now c.in_ok-expect-2.ensures)

pub shapes::map-returns-in_err-expect-3 : goal.shapes::map-returns-in_err-expect-3
shapes::map-returns-in_err-expect-3 t c =
    exits shape_of c.from_residual-in_err-expect-3.result (n.wanted 41 (codes "`)` is wanted") c.shape.new.cursor.rest.now) (n.map (n.shape c.args.levels) c.args.cursor.now.rest.now) c.in_err-expect-3.field-0.0 c.expect-3.new.self.rest.now c.from_residual-in_err-expect-3.ensures.1 c.in_err-expect-3.ensures
    (map-close (n.shape c.args.levels) c.args.cursor.now.rest.now c.expect.new.self.rest.now c.in_ok-expect.ensures (key_shape_of c.in_ok-key.key) c.map_key.new.cursor.rest.now c.in_ok-key.ensures c.expect-2.new.self.rest.now c.in_ok-expect-2.ensures
    (shape_of c.in_ok-value.value) c.shape.new.cursor.rest.now c.in_ok-value.ensures)

pub shapes::field-returns-in_err-expect : goal.shapes::field-returns-in_err-expect
shapes::field-returns-in_err-expect t c =
    exits field_of c.from_residual-in_err-expect.result (n.wanted 58 (codes "`:` is wanted") c.take-optional.new.self.rest.now) (n.field (n.shape c.args.levels) c.args.cursor.now.rest.now) c.in_err-expect.field-0.0 c.expect.new.self.rest.now c.from_residual-in_err-expect.ensures.1 c.in_err-expect.ensures
    (field-colon (n.shape c.args.levels) c.args.cursor.now.rest.now (string_bytes c.in_ok-name.name) c.name.new.self.rest.now c.take-optional.new.self.rest.now c.in_ok-name.ensures (grind arith))

pub shapes::field-returns-in_err-shape : goal.shapes::field-returns-in_err-shape
shapes::field-returns-in_err-shape t c =
    exits field_of c.from_residual-in_err-shape.result (n.shape c.args.levels c.expect.new.self.rest.now) (n.field (n.shape c.args.levels) c.args.cursor.now.rest.now) c.in_err-shape.field-0.0 c.shape.new.cursor.rest.now c.from_residual-in_err-shape.ensures.1 c.in_err-shape.ensures
    (field-shape (n.shape c.args.levels) c.args.cursor.now.rest.now (string_bytes c.in_ok-name.name) c.name.new.self.rest.now c.take-optional.new.self.rest.now c.in_ok-name.ensures (grind arith) c.expect.new.self.rest.now c.in_ok-expect.ensures)

pub shapes::items-returns-in_err-shape : goal.shapes::items-returns-in_err-shape
shapes::items-returns-in_err-shape t c =
    let l = c.loop-at in
    let inner = n.shape c.args.levels in
    let taken = c.take.new.self.rest.now in
    let all = before (map shape_of c.args.items.items) (n.items inner c.args.cursor.now.rest.now) in
    let whole = items-whole inner (map shape_of c.args.items.items) c.args.cursor.now.rest.now taken _ (grind arith) (grind arith) l.invariant in
    exits (λ items. map shape_of items.items) c.from_residual.result (inner l.cursor.rest.now) all c.in_err-shape.field-0.0 c.shape.new.cursor.rest.now c.from_residual.ensures.1 c.in_err-shape.ensures
    (turn-fault inner 41 n.comma_or_parenthesis all (map shape_of l.items.items) (length taken - l.at) l.cursor.rest.now whole (omega arith))

pub shapes::items-returns-in_err-goes_on : goal.shapes::items-returns-in_err-goes_on
shapes::items-returns-in_err-goes_on t c =
    let l = c.loop-at in
    let inner = n.shape c.args.levels in
    let taken = c.take.new.self.rest.now in
    let all = before (map shape_of c.args.items.items) (n.items inner c.args.cursor.now.rest.now) in
    let whole = items-whole inner (map shape_of c.args.items.items) c.args.cursor.now.rest.now taken _ (grind arith) (grind arith) l.invariant in
    let s = c.shape.new.cursor.rest.now in
    let x = c.from_residual-in_err-goes_on in
    exits (λ items. map shape_of items.items) x.result (n.goes_on 41 n.comma_or_parenthesis s) all c.in_err-goes_on.field-0.0 c.goes_on.new.self.rest.now x.ensures.1 c.in_err-goes_on.ensures
    (turn-sign inner 41 n.comma_or_parenthesis all (map shape_of l.items.items) (length taken - l.at) l.cursor.rest.now whole (omega arith) (shape_of c.in_ok-shape.field-0) s c.in_ok-shape.ensures)

pub shapes::items-returns : goal.shapes::items-returns
shapes::items-returns t c =
    let l = c.loop-at in
    let inner = n.shape c.args.levels in
    let taken = c.take.new.self.rest.now in
    let all = before (map shape_of c.args.items.items) (n.items inner c.args.cursor.now.rest.now) in
    let whole = items-whole inner (map shape_of c.args.items.items) c.args.cursor.now.rest.now taken _ (grind arith) (grind arith) l.invariant in
    turn-none inner 41 n.comma_or_parenthesis all (map shape_of l.items.items) (length taken - l.at) l.cursor.rest.now whole (omega arith)

pub shapes::fields-returns-in_err-field : goal.shapes::fields-returns-in_err-field
shapes::fields-returns-in_err-field t c =
    let l = c.loop-at in
    let inner = n.shape c.args.levels in
    let taken = c.take.new.self.rest.now in
    let all = n.fields inner c.args.cursor.now.rest.now in
    let whole = fields-whole inner c.args.cursor.now.rest.now taken _ (grind arith) (grind arith) l.invariant in
    exits (λ fields. map field_of fields.items) c.from_residual.result (n.field inner l.cursor.rest.now) all c.in_err-field.field-0.0 c.field.new.cursor.rest.now c.from_residual.ensures.1 c.in_err-field.ensures
    (turn-fault (n.field inner) 125 n.comma_or_brace all (map field_of l.fields.items) (length taken - l.at) l.cursor.rest.now whole (omega arith))

pub shapes::fields-returns-in_err-goes_on : goal.shapes::fields-returns-in_err-goes_on
shapes::fields-returns-in_err-goes_on t c =
    let l = c.loop-at in
    let inner = n.shape c.args.levels in
    let taken = c.take.new.self.rest.now in
    let all = n.fields inner c.args.cursor.now.rest.now in
    let whole = fields-whole inner c.args.cursor.now.rest.now taken _ (grind arith) (grind arith) l.invariant in
    let s = c.field.new.cursor.rest.now in
    let x = c.from_residual-in_err-goes_on in
    exits (λ fields. map field_of fields.items) x.result (n.goes_on 125 n.comma_or_brace s) all c.in_err-goes_on.field-0.0 c.goes_on.new.self.rest.now x.ensures.1 c.in_err-goes_on.ensures
    (turn-sign (n.field inner) 125 n.comma_or_brace all (map field_of l.fields.items) (length taken - l.at) l.cursor.rest.now whole (omega arith) (field_of c.in_ok-field.field-0) s c.in_ok-field.ensures)

pub shapes::fields-returns : goal.shapes::fields-returns
shapes::fields-returns t c =
    let l = c.loop-at in
    let inner = n.shape c.args.levels in
    let taken = c.take.new.self.rest.now in
    let all = n.fields inner c.args.cursor.now.rest.now in
    let whole = fields-whole inner c.args.cursor.now.rest.now taken _ (grind arith) (grind arith) l.invariant in
    turn-none (n.field inner) 125 n.comma_or_brace all (map field_of l.fields.items) (length taken - l.at) l.cursor.rest.now whole (omega arith)

pub variants::variants-returns-in_err-variant : goal.variants::variants-returns-in_err-variant
unfolding n.variants
variants::variants-returns-in_err-variant t c =
    let l = c.loop-at in
    let start = c.args.cursor.now.rest.now in
    let one = n.variant (n.shape c.args.levels) in
    exits (λ variants. map variant_of variants.items) c.from_residual.result (one l.cursor.rest.now) (n.variants (n.shape c.args.levels) start) c.in_err-variant.field-0.0 c.variant.new.cursor.rest.now
    c.from_residual.ensures.1 c.in_err-variant.ensures
    (turn-fault one 41 n.comma_or_parenthesis (n.variants (n.shape c.args.levels) start) (map variant_of l.variants.items) (length start - l.at) l.cursor.rest.now l.invariant (omega arith))

pub variants::variants-returns-in_err-goes_on : goal.variants::variants-returns-in_err-goes_on
unfolding n.variants
variants::variants-returns-in_err-goes_on t c =
    let l = c.loop-at in
    let start = c.args.cursor.now.rest.now in
    let one = n.variant (n.shape c.args.levels) in
    let s = c.variant.new.cursor.rest.now in
    let x = c.from_residual-in_err-goes_on in
    exits (λ variants. map variant_of variants.items) x.result (n.goes_on 41 n.comma_or_parenthesis s) (n.variants (n.shape c.args.levels) start) c.in_err-goes_on.field-0.0 c.goes_on.new.self.rest.now x.ensures.1 c.in_err-goes_on.ensures
    (turn-sign one 41 n.comma_or_parenthesis (n.variants (n.shape c.args.levels) start) (map variant_of l.variants.items) (length start - l.at) l.cursor.rest.now l.invariant (omega arith)
    (variant_of c.in_ok-variant.field-0) s c.in_ok-variant.ensures)

pub variants::variants-returns : goal.variants::variants-returns
unfolding n.variants
variants::variants-returns t c =
    let l = c.loop-at in
    let start = c.args.cursor.now.rest.now in
    turn-none (n.variant (n.shape c.args.levels)) 41 n.comma_or_parenthesis (n.variants (n.shape c.args.levels) start) (map variant_of l.variants.items) (length start - l.at) l.cursor.rest.now l.invariant (omega arith)

pub variants::variant-returns-in_err-kind : goal.variants::variant-returns-in_err-kind
unfolding n.variant
variants::variant-returns-in_err-kind t c =
    let start = c.args.cursor.now.rest.now in
    let inner = n.shape c.args.levels in
    let a = c.name.new.self.rest.now in
    let x = c.from_residual-in_err-kind in
    exits variant_of x.result (n.kind inner a) (n.variant inner start) c.in_err-kind.field-0.0 c.kind.new.cursor.rest.now x.ensures.1 c.in_err-kind.ensures
    (λ w q e. then-found _ _ _ (string_bytes c.in_ok-name.name) a c.in_ok-name.ensures (seen-fault _ _ w q e))

pub variants::held-returns-in_err-expect : goal.variants::held-returns-in_err-expect
variants::held-returns-in_err-expect t c =
    exits kind_of c.from_residual-in_err-expect.result (n.wanted 44 n.comma_or_parenthesis c.take-2.new.self.rest.now) (n.held (n.shape c.args.levels) c.args.cursor.now.rest.now) c.in_err-expect.field-0.0 c.expect.new.self.rest.now c.from_residual-in_err-expect.ensures.1 c.in_err-expect.ensures
    (held-comma (n.shape c.args.levels) c.args.cursor.now.rest.now (shape_of c.in_ok-first.first) c.shape.new.cursor.rest.now (grind arith) (grind arith) (grind arith) c.take-2.new.self.rest.now (grind arith))

pub variants::held-returns-in_err-items : goal.variants::held-returns-in_err-items
variants::held-returns-in_err-items t c =
    let b = c.expect.new.self.rest.now in
    let front = map shape_of c.push.new.self.items in
    let x = c.from_residual-in_err-items in
    exits kind_of x.result (before front (n.items (n.shape c.args.levels) b)) (n.held (n.shape c.args.levels) c.args.cursor.now.rest.now) c.in_err-items.field-0.0 c.items.new.cursor.rest.now x.ensures.1 c.in_err-items.ensures
    (held-item (n.shape c.args.levels) c.args.cursor.now.rest.now (shape_of c.in_ok-first.first) c.shape.new.cursor.rest.now (grind arith) (grind arith) (grind arith) b (grind arith) front)

pub variants::kind-returns-in_err-fields-2 : goal.variants::kind-returns-in_err-fields-2
variants::kind-returns-in_err-fields-2 t c =
    exits kind_of c.from_residual-in_err-fields-2.result (n.fields (n.shape c.args.levels) c.expect.new.self.rest.now) (n.kind (n.shape c.args.levels) c.args.cursor.now.rest.now) c.in_err-fields-2.field-0.0 c.fields-then-take_word.new.cursor.rest.now c.from_residual-in_err-fields-2.ensures.1 c.in_err-fields-2.ensures
    (kind-strict-fault (n.shape c.args.levels) c.args.cursor.now.rest.now c.expect.new.self.rest.now (grind arith) (grind arith) (grind arith))

pub shapes::named-returns-in_err-fields : goal.shapes::named-returns-in_err-fields
shapes::named-returns-in_err-fields t c =
    exits shape_of c.from_residual-in_err-fields.result (n.fields (n.shape c.args.levels) c.expect.new.self.rest.now) (n.named (n.shape c.args.levels) c.args.word.now c.args.cursor.now.rest.now) c.in_err-fields.field-0.0 c.fields.new.cursor.rest.now c.from_residual-in_err-fields.ensures.1 c.in_err-fields.ensures
    (named-strict-fault (n.shape c.args.levels) c.args.cursor.now.rest.now c.args.word.now c.expect.new.self.rest.now (grind arith) (grind arith) (grind arith) c.in_ok-expect.ensures)

pub shapes::named-returns-in_err-variants : goal.shapes::named-returns-in_err-variants
shapes::named-returns-in_err-variants t c =
    exits shape_of c.from_residual-in_err-variants.result (n.variants (n.shape c.args.levels) c.expect-then-eq-4.new.self.rest.now) (n.named (n.shape c.args.levels) c.args.word.now c.args.cursor.now.rest.now) c.in_err-variants.field-0.0 c.variants.new.cursor.rest.now c.from_residual-in_err-variants.ensures.1 c.in_err-variants.ensures
    (named-enum-fault (n.shape c.args.levels) c.args.cursor.now.rest.now c.args.word.now c.expect-then-eq-4.new.self.rest.now (grind arith) (grind arith) (grind arith) (grind arith) c.in_ok-expect-2.ensures)
