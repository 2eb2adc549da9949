-- What the commands `flat` and `params` read is what they write.
use Rattle.std.specs.Prelude.{◌≡◌, ℕ, Bool, true, nat_le, [], ◌∷◌, Option, codes, refl, string_bytes}
use Rattle.std.specs.declared.alloc.Global.{Global}
use Rattle.std.specs.declared.string.String.{String}
use Rattle.std.specs.declared.vec.Vec.{Vec}
use Rattle.qs_spec.specs.Shape.{UnknownKeys}
use Rattle.qs_tool.specs.declared.flat.Flat.{Flat}
use Rattle.qs_tool.specs.declared.params.Address.{Address}
use Rattle.qs_tool.specs.declared.params.Params.{Params}
use Rattle.qs_tool.proofs.Exact.{Exact, boolean_exact, exact_of, field, no_fields, option_exact, optional_field, sequence_exact, struct_exact, text_exact, unsigned_exact}

abbrev string : Exact (String Global)
string = exact_of (text_exact (λ (t : String Global). string_bytes t))

abbrev number : (bits : ℕ) → nat_le bits 64 ≡ true → Exact ℕ
number bits few = exact_of (unsigned_exact bits few (λ (n : ℕ). n))

abbrev boolean : Exact Bool
boolean = exact_of (boolean_exact (λ (b : Bool). b))

abbrev option : {A : Type 0} → Exact A → Exact (Option A)
option t = exact_of (option_exact t.value t.datum t.shape t.meaning t.exact)

abbrev sequence : {A : Type 0} → Exact A → Exact (Vec A Global)
sequence {A} t = exact_of (sequence_exact t.value t.datum t.shape t.meaning t.exact (λ (xs : Vec A Global). xs.items))

-- the types, and others that hold one of them

abbrev pub flat : {A : Type 0} → UnknownKeys → (A → Flat) → Exact A
flat u of = exact_of (struct_exact (field string (field (number 8 refl) (field string (optional_field boolean (field (option string) no_fields)))))
    u (codes "name" ∷ codes "age" ∷ codes "occupation" ∷ codes "active" ∷ codes "note" ∷ []) refl
    (λ x. ((of x).name, ((of x).age, ((of x).occupation, (record { 0 = (of x).active }, ((of x).note, tt)))))))

abbrev pub address : {A : Type 0} → UnknownKeys → (A → Address) → Exact A
address u of = exact_of (struct_exact (field string (field string (field string no_fields))) u (codes "city" ∷ codes "street" ∷ codes "postcode" ∷ []) refl
    (λ x. ((of x).city, ((of x).street, ((of x).postcode, tt)))))

abbrev pub params : {A B : Type 0} → Exact B → UnknownKeys → (A → Params B) → Exact A
params lives u of = exact_of (struct_exact (field (number 8 refl) (field string (field (number 32 refl) (field lives (field (sequence (number 8 refl)) no_fields)))))
    u (codes "id" ∷ codes "name" ∷ codes "phone" ∷ codes "address" ∷ codes "user_ids" ∷ []) refl
    (λ x. ((of x).id, ((of x).name, ((of x).phone, ((of x).address, ((of x).user_ids, tt)))))))
