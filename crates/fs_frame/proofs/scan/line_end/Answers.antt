use Rattle.std.proofs.Common.{◌+◌, ◌≤◌, length, rules}
use Rattle.fs_frame.proofs.ScanLaws.{searched-le-length, position_or_len-from, offset-le-length}
use Rattle.fs_frame.proofs.scan.line_end.Goals as goal

pub slice_bounds-offset_of-count : goal.slice_bounds-offset_of-count
slice_bounds-offset_of-count c = searched-le-length _ _ c.requires

pub slice_bounds-offset_of-start : goal.slice_bounds-offset_of-start
slice_bounds-offset_of-start c = let fits : c.args.searched ≤ length c.args.bytes.now = searched-le-length _ _ c.requires in search rules

pub overflow_add-result : goal.overflow_add-result
overflow_add-result c = let fits : c.args.searched + c.offset_of.result ≤ length c.args.bytes.now =
    offset-le-length _ _ c.args.bytes.now c.requires c.offset_of.ensures in search rules

pub returns-clause-offset : goal.returns-clause-offset
returns-clause-offset c = position_or_len-from _ _ c.args.bytes.now c.requires c.offset_of.ensures

pub returns-clause-within : goal.returns-clause-within
returns-clause-within c = offset-le-length _ _ c.args.bytes.now c.requires c.offset_of.ensures
