use Rattle.std.proofs.Common.{true, false, refl}
use Rattle.qs_spec.specs.Shape.UnknownKeys.{ignored, rejected}
use Rattle.serde_qs.specs.Compound.{data_by}
use Rattle.qs_tool.specs.declared.arguments.Command.TheVariants.{Flat as TheFlat, Params as TheParams, Any}
use Rattle.qs_tool.specs.declared.flat.Flat.{Flat}
use Rattle.qs_tool.specs.declared.params.Address.{Address}
use Rattle.qs_tool.specs.declared.params.Params.{Params}
use Rattle.qs_tool.specs.declared.strict.Strict.{Strict}
use Rattle.qs_tool.proofs.Forms.{flat, address, params}
use Rattle.qs_tool.proofs.Rewriting.{as_faulty, as_printed}
use Rattle.qs_tool.proofs.printing.printed.Goals as goal

pub rewritten-requires : goal.rewritten-requires
unfolding data_by
rewritten-requires c = (flat rejected (λ (x : Strict Flat). x.0)).exact

pub rewritten-requires-in-Flat-false : goal.rewritten-requires-in-Flat-false
unfolding data_by
rewritten-requires-in-Flat-false c = (flat ignored (λ (x : Flat). x)).exact

pub rewritten-requires-in-Params-true : goal.rewritten-requires-in-Params-true
unfolding data_by
rewritten-requires-in-Params-true c = (params (address rejected (λ (x : Strict Address). x.0)) rejected (λ (x : Strict (Params (Strict Address))). x.0)).exact

pub rewritten-requires-in-Params-false : goal.rewritten-requires-in-Params-false
unfolding data_by
rewritten-requires-in-Params-false c = (params (address ignored (λ (x : Address). x)) ignored (λ (x : Params Address). x)).exact

pub returns-in-Flat-true-clause-text : goal.returns-in-Flat-true-clause-text
returns-in-Flat-true-clause-text c = as_printed c.args.request TheFlat true c.in-Flat-true.is-0 c.in-Flat-true.is-1 c.args.input.now c.rewritten.result c.rewritten.ensures.text

pub returns-in-Flat-true-clause-fault : goal.returns-in-Flat-true-clause-fault
returns-in-Flat-true-clause-fault c = as_faulty c.args.request TheFlat true c.in-Flat-true.is-0 c.in-Flat-true.is-1 c.args.input.now c.rewritten.result c.rewritten.ensures.fault

pub returns-in-Flat-false-clause-text : goal.returns-in-Flat-false-clause-text
returns-in-Flat-false-clause-text c = as_printed c.args.request TheFlat false c.in-Flat-false.is-0 c.in-Flat-false.is-1 c.args.input.now c.rewritten-in-Flat-false.result c.rewritten-in-Flat-false.ensures.text

pub returns-in-Flat-false-clause-fault : goal.returns-in-Flat-false-clause-fault
returns-in-Flat-false-clause-fault c = as_faulty c.args.request TheFlat false c.in-Flat-false.is-0 c.in-Flat-false.is-1 c.args.input.now c.rewritten-in-Flat-false.result c.rewritten-in-Flat-false.ensures.fault

pub returns-in-Params-true-clause-text : goal.returns-in-Params-true-clause-text
returns-in-Params-true-clause-text c = as_printed c.args.request TheParams true c.in-Params-true.is-0 c.in-Params-true.is-1 c.args.input.now c.rewritten-in-Params-true.result c.rewritten-in-Params-true.ensures.text

pub returns-in-Params-true-clause-fault : goal.returns-in-Params-true-clause-fault
returns-in-Params-true-clause-fault c = as_faulty c.args.request TheParams true c.in-Params-true.is-0 c.in-Params-true.is-1 c.args.input.now c.rewritten-in-Params-true.result c.rewritten-in-Params-true.ensures.fault

pub returns-in-Params-false-clause-text : goal.returns-in-Params-false-clause-text
returns-in-Params-false-clause-text c = as_printed c.args.request TheParams false c.in-Params-false.is-0 c.in-Params-false.is-1 c.args.input.now c.rewritten-in-Params-false.result c.rewritten-in-Params-false.ensures.text

pub returns-in-Params-false-clause-fault : goal.returns-in-Params-false-clause-fault
returns-in-Params-false-clause-fault c = as_faulty c.args.request TheParams false c.in-Params-false.is-0 c.in-Params-false.is-1 c.args.input.now c.rewritten-in-Params-false.result c.rewritten-in-Params-false.ensures.fault

pub returns-in-Any-default-clause-text : goal.returns-in-Any-default-clause-text
returns-in-Any-default-clause-text c = as_printed c.args.request Any c.args.request.strict c.in-Any-default.is-0 refl c.args.input.now c.printed_any.result c.printed_any.ensures.text

pub returns-in-Any-default-clause-fault : goal.returns-in-Any-default-clause-fault
returns-in-Any-default-clause-fault c = as_faulty c.args.request Any c.args.request.strict c.in-Any-default.is-0 refl c.args.input.now c.printed_any.result c.printed_any.ensures.fault
