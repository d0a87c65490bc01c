-- `stream::input::Listing::take_line` meets its contract.
use Rattle.std.proofs.Common.{◌≤◌, length, sym, ◌∙◌, rules}
use Rattle.listing.proofs.Read.{name_long}
use Rattle.stream.proofs.input.Listing.take_line.Goals as goal

pub slice_bounds-push-count : goal.slice_bounds-push-count
slice_bounds-push-count g c = name_long _ (sym c.parse.ensures ∙ c.in-Name-Names.is-0)

pub slice_bounds-push-start : goal.slice_bounds-push-start
slice_bounds-push-start g c =
    let h : 2 ≤ length c.as_slice-line.result.now = name_long _ (sym c.parse.ensures ∙ c.in-Name-Names.is-0) in
    search rules
