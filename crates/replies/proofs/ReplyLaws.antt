-- What is given back, in numbers: kind 0 is that nothing is told yet, and nothing else; none of them is a refusal.
use mathlib.Core.Path.{◌≡◌, refl}
use mathlib.Core.Bool.{false}
use Rattle.std.specs.Prelude.{eqb}
use Rattle.replies.specs.Reply.{reply_of}
use Rattle.replies.specs.declared.response.Outcome.TheVariants.{WentThrough, Refused, Lost}
use Rattle.replies.specs.declared.response.Response.{Response}
use Rattle.replies.specs.declared.response.Response.TheVariants.{GoOn, Outcome}

pub something : (r : Response) → (r ≡ GoOn → ⊥) → eqb (reply_of r).kind 0 ≡ false
something GoOn h = absurd (h refl)
something (Outcome tag (WentThrough v)) h = refl
something (Outcome tag (Refused error message)) h = refl
something (Outcome tag Lost) h = refl
something r h = refl

pub no_refusal : (r : Response) → (reply_of r).code ≡ 0
no_refusal (Outcome tag (WentThrough v)) = refl
no_refusal (Outcome tag (Refused error message)) = refl
no_refusal (Outcome tag Lost) = refl
no_refusal r = refl
