use Rattle.std.proofs.Common.{rules, ◌≤◌, length, arith}
use Rattle.frames.proofs.AnswerLaws.{parting_within}
use Rattle.frames.proofs.answer.compare_list.Goals as goal

pub slice_bounds-behind-count : goal.slice_bounds-behind-count
slice_bounds-behind-count c = omega (arith, parting_within c.args.recorded.now c.args.out.now 0)

pub slice_bounds-behind-start : goal.slice_bounds-behind-start
slice_bounds-behind-start c =
    let h : length c.args.recorded.now ≤ length c.args.out.now = omega (arith, parting_within c.args.recorded.now c.args.out.now 0) in
    search rules
