-- How the reads of a run went.
use Rattle.std.specs.Prelude.{◌≡◌, ◌⊎◌}
use Rattle.qs_tool.specs.declared.input.Input.{Input}
use Rattle.qs_tool.specs.declared.input.State.TheVariants.{Open, Ended, Failed, Spent}
use Rattle.qs_tool.specs.declared.streams.Stop.{Stop}
use Rattle.qs_tool.specs.declared.streams.Stop.TheVariants.{OutOfMemory, Stream}

-- the end isn't reached: a read failed, or as many as are allowed gave bytes
abbrev pub IsCut : {R : Type 0} → Input R → Type 0
IsCut input = (input.state ≡ Failed) ⊎ ((input.state ≡ Spent) × (input.reads_left ≡ 0))

-- a run stops by its reads where they are cut, and for want of memory only where they are not
abbrev pub IsReason : {R : Type 0} → Input R → Stop → Type 0
IsReason input Stream = IsCut input
IsReason input OutOfMemory = (input.state ≡ Open) ⊎ (input.state ≡ Ended)
