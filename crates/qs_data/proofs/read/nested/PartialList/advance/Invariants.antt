use Rattle.qs_data.proofs.Common.{◌≡◌, ◌≤◌, false, map, drop, any_data, read_each, items_view, are_text, frame_data, frame_is_text, frame_size, list_begun, list_size, data_of}
use Rattle.qs_data.specs.declared.read.nested.Partial.TheVariants as frame
use Rattle.qs_data.proofs.read.nested.PartialList.advance.Given as goal

abbrev pub invariant-loop-place : goal.invariant-loop-place
invariant-loop-place l =
    let old = frame.List l.initial.self in
    let left = drop l.place (items_view l.self.items) in
    record {
      value : frame_data old ≡ list_begun (map data_of l.self.values.items) (read_each any_data left);
      text : are_text left ≡ false → frame_is_text old ≡ false;
      size : list_size left ≤ frame_size old;
      same : l.self.items ≡ l.initial.self.items;
    }
