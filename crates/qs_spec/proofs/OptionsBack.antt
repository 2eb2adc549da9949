-- Some of data that are no option is read back as they are.
use Rattle.std.proofs.Common.{◌≡◌, Bool, true, false, refl, sym, ap, ◌∙◌, option_map}
use Rattle.qs_spec.specs.Leaf.Leaf.{NoValue, Null, Text}
use Rattle.qs_spec.specs.Tree.{Tree}
use Rattle.qs_spec.specs.Data.{Data}
use Rattle.qs_spec.specs.Shape.{Shape, is_distinct}
use Rattle.qs_spec.specs.internal.ReadFunction.{reads, read_list, read_map, read_enum, struct_members}
use Rattle.qs_spec.specs.Relation.{Reads}
use Rattle.qs_spec.proofs.ReadingIsRelation.{is_the_relation}
use Rattle.qs_spec.specs.Plain.{is_optional}
use Rattle.qs_spec.specs.internal.Fitting.{Fits}
use Rattle.qs_spec.specs.Same.{Same}
use Rattle.qs_spec.proofs.IsBack.{IsBack}

-- Null and no value are the same to shapes that aren't options
abbrev distinguishes_null : Shape → Bool
distinguishes_null (Shape.option s) = true
distinguishes_null (Shape.newtype s) = distinguishes_null s
distinguishes_null Shape.any = true
distinguishes_null _ = false

null_as_no_value : (reject_duplicates : Bool) (s : Shape) → distinguishes_null s ≡ false → reads reject_duplicates s (Tree.leaf Null) ≡ reads reject_duplicates s (Tree.leaf NoValue)
unfolding reads read_list read_map read_enum struct_members
null_as_no_value reject_duplicates Shape.unit e = refl
null_as_no_value reject_duplicates Shape.boolean e = refl
null_as_no_value reject_duplicates (Shape.unsigned bits) e = refl
null_as_no_value reject_duplicates (Shape.signed bits) e = refl
null_as_no_value reject_duplicates Shape.character e = refl
null_as_no_value reject_duplicates Shape.text e = refl
null_as_no_value reject_duplicates Shape.bytes e = refl
null_as_no_value reject_duplicates (Shape.option s) e = cc
null_as_no_value reject_duplicates (Shape.sequence s) e = refl
null_as_no_value reject_duplicates (Shape.tuple ss) e = refl
null_as_no_value reject_duplicates (Shape.mapping k s) e = refl
null_as_no_value reject_duplicates (Shape.struct u fs) e = refl
null_as_no_value reject_duplicates (Shape.newtype s) e = ap (option_map Data.newtype) (null_as_no_value reject_duplicates s e)
null_as_no_value reject_duplicates (Shape.enumeration vs) e = refl
null_as_no_value reject_duplicates Shape.any e = cc
null_as_no_value reject_duplicates Shape.ignored e = refl

pub no_option : {s : Shape} {d : Data} → Fits s d → is_optional d ≡ false → distinguishes_null s ≡ false
no_option Fits.unit e = refl
no_option Fits.boolean e = refl
no_option (Fits.unsigned l m) e = refl
no_option (Fits.positive l m) e = refl
no_option (Fits.negative l m) e = refl
no_option (Fits.character c) e = refl
no_option (Fits.text u) e = refl
no_option (Fits.bytes h) e = refl
no_option Fits.none e = cc
no_option (Fits.some f) e = cc
no_option (Fits.newtype f) e = no_option f e
no_option (Fits.sequence f) e = refl
no_option (Fits.tuple f) e = refl
no_option (Fits.mapping f) e = refl
no_option (Fits.struct f) e = refl
no_option (Fits.unit_variant v u) e = refl
no_option (Fits.newtype_variant v u f) e = refl
no_option (Fits.tuple_variant v u f) e = refl
no_option (Fits.struct_variant v u f) e = refl

-- some of data that are no option
pub some_back : (reject_duplicates : Bool) (s : Shape) (d : Data) (t : Tree) → is_distinct s ≡ true → distinguishes_null s ≡ false → is_optional d ≡ false → IsBack reject_duplicates s t d → IsBack reject_duplicates (Shape.option s) t (Data.some d)
some_back reject_duplicates s d (Tree.leaf NoValue) dist e o g = absurd (g.valued o)
some_back reject_duplicates s d (Tree.leaf Null) dist e o g = record {
  answer = Data.some g.answer;
  reads = Reads.option_null ((is_the_relation reject_duplicates s (Tree.leaf NoValue) g.answer dist).1 (sym (null_as_no_value reject_duplicates s e) ∙ (is_the_relation reject_duplicates s (Tree.leaf Null) g.answer dist).0 g.reads));
  same = Same.some g.same;
  valued = λ x. tt;
}
some_back reject_duplicates s d (Tree.leaf (Text t m)) dist e o g = record { answer = Data.some g.answer; reads = Reads.option_full tt g.reads; same = Same.some g.same; valued = λ x. tt }
some_back reject_duplicates s d (Tree.sequence xs) dist e o g = record { answer = Data.some g.answer; reads = Reads.option_full tt g.reads; same = Same.some g.same; valued = λ x. tt }
some_back reject_duplicates s d (Tree.mapping es) dist e o g = record { answer = Data.some g.answer; reads = Reads.option_full tt g.reads; same = Same.some g.same; valued = λ x. tt }
some_back reject_duplicates s d Tree.uninitialized dist e o g = absurd (g.valued o)
