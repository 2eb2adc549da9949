use Rattle.std.proofs.Common.{◌∙◌, ◌∷◌, List, map, string_bytes, Some, refl, sym, ap, subst}
use Rattle.std.specs.declared.string.String.{String}
use Rattle.std.specs.declared.alloc.Global.{Global}
use Rattle.qs_tool.specs.Misuse.BeginsWith.{no_option}
use Rattle.qs_tool.proofs.Options.{Goes, left, first_word, goes_by_flag, goes_by_value, ends_by_flag, ends_by_value}
use Rattle.qs_tool.proofs.arguments.options.Goals.{in-Some, in_default-flag+else-not-takes_value+in-len1-up-after+in-Some-valued}
use Rattle.qs_tool.proofs.arguments.options.Goals as goal

pub loop-rest-init : goal.loop-rest-init
loop-rest-init c = rw c.new-settings.ensures (refl, no_option)

pub returns-in_default-choose-clause-settings : goal.returns-in_default-choose-clause-settings
returns-in_default-choose-clause-settings c =
    let l = c.loop-rest in
    let first = first_word l.rest.now c.name-item.result _ c.in-len1-up.len_at_least c.name-item.is c.as_str-name.ensures.value in
    let again = sym c.choose.ensures ∙ c.in_default-choose.is in
    elim c.match-flag.branch [
      | in-Some w ↦ ends_by_flag _ _ _ l.settings _ _ l.invariant first (sym c.flag.ensures ∙ w.in-Some.is ∙ ap Some (sym w.choice-is)) again
      | in_default-flag+else-not-takes_value+in-len1-up-after+in-Some-valued w ↦
          let second = first_word (left l.rest.now) w.value-item.result _ w.in-len1-up-after.len_at_least w.value-item.is w.as_str.ensures.value in
          ends_by_value _ _ _ l.settings _ _ _ l.invariant (first ∙ ap (λ words. c.as_str-name.result.now ∷ words) second)
          (sym c.flag.ensures ∙ w.in_default-flag.is) (sym w.valued.ensures ∙ w.in-Some-valued.is ∙ ap Some (sym w.choice-is)) again
    ]

pub loop-rest-preserved : goal.loop-rest-preserved
loop-rest-preserved c =
    let l = c.loop-rest in
    let words = map string_bytes c.args.words.now in
    let first = first_word l.rest.now c.name-item.result _ c.in-len1-up.len_at_least c.name-item.is c.as_str-name.ensures.value in
    let one_more = sym c.choose.ensures ∙ c.in-Some-choose.is in
    let Left : List (String Global) → Type 0 = λ rest. Goes words c.in-Some-choose.chosen (map string_bytes rest) in
    elim c.match-flag.branch [
      | in-Some w ↦
          subst Left (sym (ap (λ rest. rest.now) w.rest-is))
          (goes_by_flag words _ _ l.settings _ _ _ l.invariant first (sym c.flag.ensures ∙ w.in-Some.is ∙ ap Some (sym w.choice-is)) one_more)
      | in_default-flag+else-not-takes_value+in-len1-up-after+in-Some-valued w ↦
          let second = first_word (left l.rest.now) w.value-item.result _ w.in-len1-up-after.len_at_least w.value-item.is w.as_str.ensures.value in
          subst Left (sym (ap (λ rest. rest.now) w.rest-is))
          (goes_by_value words _ _ l.settings _ _ _ _ l.invariant (first ∙ ap (λ words. c.as_str-name.result.now ∷ words) second)
          (sym c.flag.ensures ∙ w.in_default-flag.is) (sym w.valued.ensures ∙ w.in-Some-valued.is ∙ ap Some (sym w.choice-is)) one_more)
    ]
