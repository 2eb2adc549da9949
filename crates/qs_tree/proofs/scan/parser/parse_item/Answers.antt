use Rattle.qs_tree.proofs.Common.{◌≡◌, [], true, false, sym, ap, ap₂, ◌∙◌, subst, tokens, raw_of, ends_root, cut, parsed_pairs, and_pairs, left, from_token, is_nothing, from_root, AllocatesNothing, is_unescaped, IsEqualsStop}
use Rattle.qs_tree.proofs.lemmas.scan.AfterKeys.{has_bytes}
use Rattle.qs_tree.proofs.lemmas.scan.Items.{end_pairs, ampersand_pairs, pair_pairs, pair_item, error_item}
use Rattle.qs_tree.proofs.lemmas.scan.UnallocatedItems.{unallocated_nothing, unallocated_value}
use Rattle.qs_tree.proofs.scan.parser.parse_item.Goals as goal
use Rattle.qs_tree.proofs.scan.parser.parse_item.Goals.{After-is_nothing}

-- the tokens from the root key on
same : (w : After-is_nothing) → left w.args.cursor.now ≡ left w.begin_pair.new.self
same w = sym (ap₂ tokens w.begin_pair.ensures.is_form w.begin_pair.ensures.rest)

-- the bytes of the root key, what follows it, and whether that is nothing
key : (w : After-is_nothing) → w.run.result.0.now ≡ raw_of (cut (ends_root w.args.max_depth) (left w.begin_pair.new.self)).0
key w = w.run.ensures.run ∙ ap (λ ends. raw_of (cut ends (left w.begin_pair.new.self)).0) w.root_end.ensures

stop : (w : After-is_nothing) → (cut (ends_root w.args.max_depth) (left w.begin_pair.new.self)).1 ≡ from_token w.run.result.1 (left w.run.new.self)
stop w = ap (λ ends. (cut ends (left w.begin_pair.new.self)).1) (sym w.root_end.ensures) ∙ w.run.ensures.token

tested : (w : After-is_nothing) → is_nothing (raw_of (cut (ends_root w.args.max_depth) (left w.begin_pair.new.self)).0) w.run.result.1 ≡ w.is_nothing.result
tested w = ap (λ raw. is_nothing raw w.run.result.1) (sym (key w)) ∙ sym w.is_nothing.ensures

-- the pairs from this one on
pairs : (w : After-is_nothing) → w.is_nothing.result ≡ false
    → parsed_pairs w.args.max_depth (left w.args.cursor.now) ≡ and_pairs w.args.max_depth (from_root w.args.max_depth w.run.result.0.now (from_token w.run.result.1 (left w.run.new.self)))
pairs w some =
    let depth = w.args.max_depth in
    let old = w.begin_pair.new.self in
    ap (parsed_pairs depth) (same w) ∙ pair_pairs depth (left old) w.run.result.1 (left w.run.new.self) (has_bytes old.is_form old.rest.now) (stop w) (tested w ∙ some)
    ∙ ap (λ raw. and_pairs depth (from_root depth raw (from_token w.run.result.1 (left w.run.new.self)))) (sym (key w))

-- a value alone, for which nothing is allocated
root_value : (w : After-is_nothing) → w.is_nothing.result ≡ false → AllocatesNothing w.args.cursor.now.rest.now → (w.run.result.0.now ≡ []) × IsEqualsStop w.run.result.1 × (is_unescaped w.run.new.self.rest.now ≡ true)
root_value w some taken =
    let old = w.begin_pair.new.self in
    let new = w.run.new.self in
    unallocated_value w.args.max_depth old.is_form w.run.result.0.now w.run.result.1 (left new) new.rest.now old.rest.now (key w) (stop w) w.run.ensures.bytes (subst AllocatesNothing (sym w.begin_pair.ensures.rest) taken) (sym w.is_nothing.ensures ∙ some)

pub returns-in-None-clause-item : goal.returns-in-None-clause-item
returns-in-None-clause-item c =
    let w = (goal.at.returns-in-None-clause-item c).After-is_nothing in
    let old = c.begin_pair.new.self in
    ap (parsed_pairs c.args.max_depth) (same w) ∙ end_pairs c.args.max_depth (left old) c.run.result.1 (left c.run.new.self) (has_bytes old.is_form old.rest.now) (stop w) (tested w ∙ c.if-is_nothing.true) c.in-None.is

pub returns-in-Some-clause-item : goal.returns-in-Some-clause-item
returns-in-Some-clause-item c =
    let w = (goal.at.returns-in-Some-clause-item c).After-is_nothing in
    let old = c.begin_pair.new.self in
    ap (parsed_pairs c.args.max_depth) (same w) ∙ ampersand_pairs c.args.max_depth (left old) c.run.result.1 c.in-Some.field-0 (left c.run.new.self) (has_bytes old.is_form old.rest.now) (stop w) (tested w ∙ c.if-is_nothing.true) c.in-Some.is

pub returns-clause-item : goal.returns-clause-item
returns-clause-item c =
    pair_item c.args.max_depth (left c.args.cursor.now) _ tt c.parse_after_root.new.cursor c.parse_after_root.new.pair
    (pairs (goal.at.returns-clause-item c).After-is_nothing c.if-is_nothing.false) c.in_ok-parse_after_root.ensures.pair

pub returns-in_err-parse_after_root-clause-item : goal.returns-in_err-parse_after_root-clause-item
returns-in_err-parse_after_root-clause-item c =
    error_item c.args.max_depth (left c.args.cursor.now) _ c.from_residual.result c.in_err-parse_after_root.field-0.0 _ c.parse_after_root.new.cursor c.parse_after_root.new.pair c.from_residual.ensures.1 (λ y p. p)
    (pairs (goal.at.returns-in_err-parse_after_root-clause-item c).After-is_nothing c.if-is_nothing.false) c.in_err-parse_after_root.ensures.pair

pub returns-in-Some-clause-unallocated : goal.returns-in-Some-clause-unallocated
returns-in-Some-clause-unallocated c = λ taken.
    let w = (goal.at.returns-in-Some-clause-unallocated c).After-is_nothing in
    let old = c.begin_pair.new.self in
    let new = c.run.new.self in
    unallocated_nothing c.args.max_depth old.is_form c.run.result.0.now c.run.result.1 (left new) new.rest.now old.rest.now c.in-Some.field-0 (key w) (stop w) c.run.ensures.bytes (subst AllocatesNothing (sym c.begin_pair.ensures.rest) taken) (sym c.is_nothing.ensures ∙ c.if-is_nothing.true) c.in-Some.is

pub returns-clause-unallocated : goal.returns-clause-unallocated
returns-clause-unallocated c = λ taken.
    let is = root_value (goal.at.returns-clause-unallocated c).After-is_nothing c.if-is_nothing.false taken in
    c.in_ok-parse_after_root.ensures.root_value is.0 is.1 is.2

pub returns-in_err-parse_after_root-clause-unallocated : goal.returns-in_err-parse_after_root-clause-unallocated
returns-in_err-parse_after_root-clause-unallocated c = λ taken.
    let is = root_value (goal.at.returns-in_err-parse_after_root-clause-unallocated c).After-is_nothing c.if-is_nothing.false taken in
    absurd (c.in_err-parse_after_root.ensures.root_value is.0 is.1 is.2)
