-- What was returned of a type's own values, in the words of its table.
use Rattle.std.proofs.Common.{◌≡◌, ap, ◌∙◌, sym}
use Rattle.std.specs.Prelude.{Result, Ok, Err, Option, Some, option_map}
use Rattle.qs_tree.specs.declared.error.Error.{Error}
use Rattle.qs_tree.specs.declared.error.Error.TheVariants.{Custom, Utf8, OutOfMemory}
use Rattle.serde_qs.specs.Typed.{GivesValue}

pub in_table : {X Y Z : Type 0} (own : X → Y) (held : X → Z) (kept : Y → Z) → ((x : X) → held x ≡ kept (own x)) → (r : Option Y) (s : Option Z) → s ≡ option_map kept r
    → (result : Result X Error) → GivesValue own result r → GivesValue held result s
in_table own held kept one r s same (Ok x) p = same ∙ (ap (option_map kept) p ∙ ap Some (sym (one x)))
in_table own held kept one r s same (Err (Custom message)) p = same ∙ ap (option_map kept) p
in_table own held kept one r s same (Err (Utf8 cause)) p = (same ∙ ap (option_map kept) p.0, p.1)
in_table own held kept one r s same (Err OutOfMemory) p = p
in_table own held kept one r s same (Err _) p = p
