use Rattle.qs_data.proofs.Common.{◌≡◌, ◌≤◌, false, map, any_data, read_pairs, KeyShape, entries_of_map, entries_after, frame_data, frame_is_text, frame_size, map_begun, entries_size, entries_are_text, pair_of}
use Rattle.qs_data.specs.declared.read.nested.Partial.TheVariants as frame
use Rattle.qs_data.proofs.read.nested.PartialMap.advance.Given as goal

abbrev pub invariant-loop-place : goal.invariant-loop-place
invariant-loop-place l =
    let old = frame.Map l.initial.self in
    let left = entries_after l.place (entries_of_map l.self.entries.now) in
    record {
      value : frame_data old ≡ map_begun (map pair_of l.self.pairs.items) (read_pairs KeyShape.text any_data left);
      text : entries_are_text left ≡ false → frame_is_text old ≡ false;
      size : entries_size left ≤ frame_size old;
      same : l.self.entries.now ≡ l.initial.self.entries.now;
    }
