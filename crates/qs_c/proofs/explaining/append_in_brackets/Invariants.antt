use Rattle.std.proofs.Common.{◌≡◌, ◌++◌, false, drop, map}
use Rattle.qs_spec.specs.Segment.{segment_text}
use Rattle.qs_spec.specs.Written.{brackets_text}
use Rattle.qs_data.specs.failure.Mismatch.{segment_of}
use Rattle.qs_c.proofs.explaining.append_in_brackets.Given as goal

abbrev pub invariant-loop-segment : goal.invariant-loop-segment
invariant-loop-segment l =
    l.text.items ++ brackets_text false (map segment_text (map segment_of (drop l.segment-index l.path)))
    ≡ l.initial.text.items ++ brackets_text false (map segment_text (map segment_of l.path))
