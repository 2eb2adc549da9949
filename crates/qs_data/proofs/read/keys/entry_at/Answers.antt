use Rattle.qs_data.proofs.Common.{sym, option_map, string_bytes, is_utf8, ParsedSegment, segment_text, Tree, keys_are_text, entries_of_map, parsed_segment_of_key, tree_of, first_entry, utf8_text}
use Rattle.qs_data.specs.read.Entries.{entries_after}
use Rattle.qs_data.proofs.lemmas.read.FirstEntry.{first_given, first_rejected, key_bad}
use Rattle.qs_data.proofs.lemmas.read.ReadErrors.{gives_exit}
use Rattle.qs_data.proofs.read.keys.entry_at.Goals as goal

pub returns-in_err-text : goal.returns-in_err-text
returns-in_err-text c =
    let es = entries_of_map c.args.map.now in
    let i = c.args.place in
    let x : ParsedSegment × Tree = (parsed_segment_of_key c.in-Some.key.now, tree_of c.in-Some.value.now) in
    let here = sym c.in-Some.ensures.value in
    gives_exit (option_map (λ e. (string_bytes e.0, tree_of e.1.now))) (is_utf8 (segment_text x.0.segment)) (keys_are_text es) c.from_residual.result c.in_err-text.field-0.0
    (utf8_text (segment_text x.0.segment)) (first_entry (entries_after i es)) c.from_residual.ensures.1 c.in_err-text.ensures (first_rejected i es x here) (key_bad i es x here)

pub returns : goal.returns
returns c =
    let es = entries_of_map c.args.map.now in
    let x : ParsedSegment × Tree = (parsed_segment_of_key c.in-Some.key.now, tree_of c.in-Some.value.now) in
    first_given c.args.place es x (sym c.in-Some.ensures.value) (string_bytes c.in_ok-text.text) c.in_ok-text.ensures
