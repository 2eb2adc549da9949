use Rattle.std.proofs.Common.{◌∙◌, sym, ap}
use Rattle.std.proofs.lemmas.Result.{err_from_is_err_and}
use Rattle.qs_tool.specs.Arguments.{command_named}
use Rattle.qs_tool.proofs.Options.{first_word, misuse_of_option, misuse_of_flat}
use Rattle.qs_tool.proofs.arguments.Request.parse.Goals as goal

pub returns-in_default-named-clause-misuse : goal.returns-in_default-named-clause-misuse
returns-in_default-named-clause-misuse c =
    let same = c.as_str-in_default-named.ensures.value ∙ sym c.as_str.ensures.value in (
      _,
      first_word c.args.words.now c.name-item.result _ c.in-len1-up.len_at_least c.name-item.is c.as_str-in_default-named.ensures.value,
      ap command_named same ∙ sym c.in_default-named.ensures,
    )

pub returns-in_err-options-clause-misuse : goal.returns-in_err-options-clause-misuse
returns-in_err-options-clause-misuse c =
    let first = first_word c.args.words.now c.name-item.result _ c.in-len1-up.len_at_least c.name-item.is c.as_str.ensures.value in
    let p = err_from_is_err_and c.from_residual.result c.from_residual.ensures.1 in
    rw (p.1, p.2) (misuse_of_option _ _ _ _ first c.in_err-options.ensures.misuse)

pub returns-clause-misuse : goal.returns-clause-misuse
returns-clause-misuse c =
    let first = first_word c.args.words.now c.name-item.result _ c.in-len1-up.len_at_least c.name-item.is c.as_str.ensures.value in
    rw c.ok_or.ensures.value (misuse_of_flat _ _ _ _ _ _ first c.in-Some.ensures c.in_ok-options.ensures.settings c.configured.ensures)
