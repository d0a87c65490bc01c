-- `KindLaws`: kinds of answers. `Links`: the code, for a link.
pub mod KindLaws
pub mod Links
