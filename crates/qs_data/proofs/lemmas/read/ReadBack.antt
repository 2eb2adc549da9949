-- A reader returns data that are those of which the input was written.
use Rattle.qs_data.proofs.Common.{◌≡◌, true, false, inl, inr, List, Result, Ok, Err, subst, Config, are_rejected, Entry, written, Error, Custom, Utf8, Data, data_of, Parsed, ReturnsData}
use Rattle.qs_spec.specs.Data as d
use Rattle.qs_spec.specs.Shape as s
use Rattle.qs_spec.specs.Relation.{ReadsBy}
use Rattle.qs_spec.specs.ReadBack.{IsPlainFor, IsReadBack}
use Rattle.qs_spec.specs.Same.{Same}
use Rattle.qs_spec.proofs.TreeOf.{one_tree}
use Rattle.qs_spec.proofs.DataRelatedIsRead.{one_data}
use Rattle.qs_spec.proofs.WrittenBack as back
use Rattle.qs_tree.specs.declared.error.Error.TheVariants.{OutOfMemory}
use Rattle.qs_data.specs.read.ReadBack.{IsOrder, IsSame, ReadsBack}

pub in_order : (config : Config) (shape : s.Shape) (x : d.Data) (es : List Entry) → s.is_distinct shape ≡ true → IsPlainFor config shape x → IsOrder config x es → IsReadBack config shape x (written config.is_form false es)
in_order config shape x es dist w (inl o) = back.read_back config shape x es o.0 dist w o.1
in_order config shape x es dist w (inr o) = back.lists_back config shape x es dist w o.0 o.1

pub reads_back : (parsed : Parsed) (shape : s.Shape) (result : Result Data Error) → s.is_distinct shape ≡ true → ReturnsData parsed shape result → ReadsBack parsed shape result
reads_back parsed shape result dist g x es w o t =
    let b = in_order parsed.config shape x es dist w o in
    let one : b.tree ≡ parsed.tree = one_tree parsed.config.is_form parsed.config.max_depth (written parsed.config.is_form false es) b.tree parsed.tree b.is_tree t in
    by b.answer b.same (subst (λ t. ReadsBy parsed.config shape t b.answer) one b.reads) result g
  where
    by : (a : d.Data) → Same x a → ReadsBy parsed.config shape parsed.tree a → (result : Result Data Error) → ReturnsData parsed shape result → IsSame x result
    by a same r (Ok y) g = subst (Same x) (one_data (are_rejected parsed.config.duplicates) shape parsed.tree a (data_of y) dist r g) same
    by a same r (Err (Custom message)) g = g a r
    by a same r (Err (Utf8 cause)) g = g.0 a r
    by a same r (Err OutOfMemory) g = tt
    by a same r (Err _) g = absurd g
