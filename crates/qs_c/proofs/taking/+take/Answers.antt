use Rattle.std.proofs.Common.{ap, sym, ◌∙◌}
use Rattle.qs_spec.specs.Data as d
use Rattle.qs_data.proofs.lemmas.data.Levels.{data_of_map}
use Rattle.qs_c.specs.Taken.{item_data}
use Rattle.qs_c.proofs.Levels.{data_of_array, data_of_list, data_of_object}
use Rattle.qs_c.proofs.taking.+take.Goals as goal

pub take-returns-in_ok-take_items-in-Array : goal.take-returns-in_ok-take_items-in-Array
take-returns-in_ok-take_items-in-Array t c =
    data_of_list c.in_ok-take_items-in-Array.field-0 ∙ ap (λ xs. d.sequence (d.values_of xs)) c.in_ok-take_items-in-Array.ensures
    ∙ sym (ap item_data c.in-Array.is ∙ data_of_array c.in-Array.items)

pub take-returns-in_ok-take_members-in-Object : goal.take-returns-in_ok-take_members-in-Object
take-returns-in_ok-take_members-in-Object t c =
    data_of_map c.in_ok-take_members-in-Object.field-0 ∙ ap (λ ps. d.mapping (d.pairs_of ps)) c.in_ok-take_members-in-Object.ensures
    ∙ sym (ap item_data c.in-Object.is ∙ data_of_object c.in-Object.members)
