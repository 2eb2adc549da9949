use Rattle.qs_data.proofs.Common.{◌≡◌, ◌++◌, List, sym, subst, ap, ◌∙◌, ParsedSegment, Tree, entries_of_map, segment_of_key, value_at_key, value_in}
use Rattle.qs_spec.specs.Segment.Segment.{Int, Str}
use Rattle.qs_data.specs.read.Found.{IsFound}
use Rattle.qs_data.proofs.lemmas.read.Lookups.{list, found_text, found_number, value_list}
use Rattle.qs_data.proofs.read.keys.find_in_map.Goals as goal

pub returns-in-Some : goal.returns-in-Some
returns-in-Some c =
    let es = entries_of_map c.args.map.now in
    let name = c.args.name.now in
    let n = c.in-Some.number in
    let by_text : value_in c.get-by_text.result ≡ list (value_at_key (Str name) es) = value_list c.get-by_text.result (segment_of_key c.from.result) (Str name) es c.get-by_text.ensures.value (ap (λ (s : ParsedSegment). s.segment) c.from.ensures) in
    let by_number : value_in c.get.result ≡ list (value_at_key (Int n) es) = value_list c.get.result (segment_of_key c.from-in-Some.result) (Int n) es c.get.ensures.value (ap (λ (s : ParsedSegment). s.segment) c.from-in-Some.ensures) in
    let all = found_number name n es c.get.ensures.ordered c.requires c.in-Some.ensures.0 c.in-Some.ensures.1 in
    let P : List Tree → Type 0 = λ ts. IsFound c.either.result ts in
    subst P (ap (λ ts. ts ++ value_in c.get-by_text.result) by_number ∙ ap (λ ts. list (value_at_key (Int n) es) ++ ts) by_text ∙ sym all) c.either.ensures

pub returns-in-None : goal.returns-in-None
returns-in-None c =
    let es = entries_of_map c.args.map.now in
    let name = c.args.name.now in
    let by_text : value_in c.get-by_text.result ≡ list (value_at_key (Str name) es) = value_list c.get-by_text.result (segment_of_key c.from.result) (Str name) es c.get-by_text.ensures.value (ap (λ (s : ParsedSegment). s.segment) c.from.ensures) in
    let all = found_text name es c.get-by_text.ensures.ordered c.requires c.in-None.ensures in
    let P : List Tree → Type 0 = λ ts. IsFound c.either-in-None.result ts in
    subst P (by_text ∙ sym all) c.either-in-None.ensures
