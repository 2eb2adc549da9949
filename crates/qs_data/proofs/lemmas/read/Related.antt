-- From the function of reading, of which the reader's own functions speak, to the relation, of which callers read.
use Rattle.qs_data.proofs.Common.{◌≡◌, true, Result, Ok, Err, None, are_rejected, Shape, is_distinct, read_by, Error, Custom, Utf8, Data, data_of, is_text, Gives, Parsed, ReturnsData, AllocatesOnlyForErrors}
use Rattle.qs_spec.specs.Relation.{ReadsNothing}
use Rattle.qs_spec.proofs.ReadingIsRelation.{related, none_related}
use Rattle.qs_tree.specs.declared.error.Error.TheVariants.{OutOfMemory}
use Rattle.qs_data.specs.read.internal.Frugal.{IsFrugal}

nothing : (parsed : Parsed) (shape : Shape) → is_distinct shape ≡ true → read_by parsed.config shape parsed.tree ≡ None → ReadsNothing parsed.config shape parsed.tree
nothing parsed shape dist = (none_related (are_rejected parsed.config.duplicates) shape parsed.tree dist).1

pub returns_data : (parsed : Parsed) (shape : Shape) (result : Result Data Error) → is_distinct shape ≡ true
    → Gives data_of (is_text parsed.tree) result (read_by parsed.config shape parsed.tree) → ReturnsData parsed shape result
returns_data parsed shape (Ok d) dist g = related (are_rejected parsed.config.duplicates) shape parsed.tree (data_of d) g
returns_data parsed shape (Err (Custom message)) dist g = nothing parsed shape dist g
returns_data parsed shape (Err (Utf8 cause)) dist g = (nothing parsed shape dist g.0, g.1)
returns_data parsed shape (Err OutOfMemory) dist g = tt
returns_data parsed shape (Err _) dist g = absurd g

pub allocates_only_for_errors : (parsed : Parsed) (shape : Shape) (result : Result Data Error) → is_distinct shape ≡ true → IsFrugal result (read_by parsed.config shape parsed.tree) → AllocatesOnlyForErrors parsed shape result
allocates_only_for_errors parsed shape (Err OutOfMemory) dist f = nothing parsed shape dist f
allocates_only_for_errors parsed shape _ dist f = tt
