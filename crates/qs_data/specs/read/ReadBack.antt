-- What a reader returns to an input that was written.
use Rattle.std.specs.Prelude.{◌≡◌, ⊤, true, false, ◌⊎◌, List, Result, Ok, Err}
use Rattle.std.specs.List.Sorted.{IsPermutation}
use Rattle.qs_spec.specs.Config.{Config}
use Rattle.qs_spec.specs.Config.ArrayFormat.{indexed}
use Rattle.qs_spec.specs.Data as d
use Rattle.qs_spec.specs.Shape as s
use Rattle.qs_spec.specs.Tree.{IsTree}
use Rattle.qs_spec.specs.Entry.{Entry, entries}
use Rattle.qs_spec.specs.Written.{written}
use Rattle.qs_spec.specs.Listed.{is_listed}
use Rattle.qs_spec.specs.ReadBack.{IsPlainFor, KeepsPaths}
use Rattle.qs_spec.specs.Same.{Same}
use Rattle.qs_tree.specs.declared.error.Error.{Error}
use Rattle.qs_tree.specs.declared.error.Error.TheVariants.{OutOfMemory}
use Rattle.qs_data.specs.declared.data.data.Data.{Data}
use Rattle.qs_data.specs.data.Views.{data_of}
use Rattle.qs_data.specs.read.Parsed.{Parsed}

-- the entries of the data in any order, or in one that keeps lists
abbrev pub IsOrder : Config → d.Data → List Entry → Type 0
IsOrder config x es = ((config.array_format ≡ indexed) × IsPermutation (entries config x).entries es)
    ⊎ ((is_listed config.array_format false x ≡ true) × KeepsPaths (entries config x).entries es)

-- data that are the same, or memory ran out
abbrev pub IsSame : d.Data → Result Data Error → Type 0
IsSame x (Ok y) = Same x (data_of y)
IsSame x (Err OutOfMemory) = ⊤
IsSame x (Err _) = ⊥

-- whatever plain data the input was written of, they are what is returned
abbrev pub ReadsBack : Parsed → s.Shape → Result Data Error → Type 0
ReadsBack parsed shape result = (x : d.Data) (es : List Entry) → IsPlainFor parsed.config shape x → IsOrder parsed.config x es
    → IsTree parsed.config.is_form parsed.config.max_depth (written parsed.config.is_form false es) parsed.tree → IsSame x result
