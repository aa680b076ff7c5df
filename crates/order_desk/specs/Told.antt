-- What is heard of the replies that come from a thread.
use Rattle.std.specs.Prelude.{ℕ, nat_lt, if◌then◌else◌, List, [], ◌∷◌}
use Rattle.lean_orders.specs.declared.desk.Reply.{Reply}
use Rattle.lean_orders.specs.declared.desk.Reply.TheVariants.{Done}
use Rattle.order_desk.specs.Heard.{told_after, most_told}

-- of a command of which so many replies were heard the next one is this, or `Done` where the most were heard
abbrev pub tell : ℕ → Reply → Reply
tell told reply = if nat_lt told most_told then reply else Done

-- the same of all replies, in order
abbrev pub tells : ℕ → List Reply → List Reply
tells told [] = []
tells told (r ∷ rest) = tell told r ∷ tells (told_after told (tell told r)) rest

-- how many replies were heard of the next command behind some replies
abbrev pub told_by : ℕ → List Reply → ℕ
told_by told [] = told
told_by told (r ∷ rest) = told_by (told_after told (tell told r)) rest
