use Rattle.std.proofs.Common.{subst}
use Rattle.fs_frame.specs.Answer.{IsTaken}
use Rattle.fs_frame.specs.Stream.{Stream}
use Rattle.fs_frame.specs.declared.front.Taken.TheVariants.{Whole, Nothing}
use Rattle.fs_frame.proofs.StreamLaws.{seen-headed, seen-nothing, seen-spoilt, taken-headed, taken-open, taken-nothing, taken-spoilt}
use Rattle.fs_frame.proofs.blocks.Blocks.advance.Goals as goal

pub returns-then-len-self-clause-after : goal.returns-then-len-self-clause-after
returns-then-len-self-clause-after c =
    rw (← c.self.view_is)
    (seen-nothing c.self.inside.bytes.items c.self.inside.lent c.self.inside.start
    (taken-open c.self.inside.bytes.items c.self.inside.start c.in-Headed.len c.look-self-inside.result c.in-Headed.command
    (rw c.deref.ensures.value at c.look-self-inside.ensures) c.in-Headed.is
    (rw (c.len.ensures, ← c.deref.ensures.len, c.deref.ensures.value) at c.if-len-self.true)))

pub returns-then-len-self-clause-taken : goal.returns-then-len-self-clause-taken
returns-then-len-self-clause-taken c =
    subst (λ (s : Stream). IsTaken s.rest Nothing) c.self.view_is
    (taken-open c.self.inside.bytes.items c.self.inside.start c.in-Headed.len c.look-self-inside.result c.in-Headed.command
    (rw c.deref.ensures.value at c.look-self-inside.ensures) c.in-Headed.is
    (rw (c.len.ensures, ← c.deref.ensures.len, c.deref.ensures.value) at c.if-len-self.true))

pub returns-else-len-self-clause-after : goal.returns-else-len-self-clause-after
returns-else-len-self-clause-after c =
    rw (← c.self.view_is)
    (seen-headed c.self.inside.bytes.items c.self.inside.lent c.self.inside.start c.in-Headed.len c.look-self-inside.result
    c.in-Headed.command (rw c.deref.ensures.value at c.look-self-inside.ensures) c.in-Headed.is
    (rw (c.len.ensures, ← c.deref.ensures.len, c.deref.ensures.value) at c.if-len-self.false))

pub returns-else-len-self-clause-taken : goal.returns-else-len-self-clause-taken
returns-else-len-self-clause-taken c =
    subst (λ (s : Stream). IsTaken s.rest (Whole c.in-Headed.command)) c.self.view_is
    (taken-headed c.self.inside.bytes.items c.self.inside.start c.in-Headed.len c.look-self-inside.result c.in-Headed.command
    (rw c.deref.ensures.value at c.look-self-inside.ensures) c.in-Headed.is
    (rw (c.len.ensures, ← c.deref.ensures.len, c.deref.ensures.value) at c.if-len-self.false))

pub returns-in-Open-clause-after : goal.returns-in-Open-clause-after
returns-in-Open-clause-after c =
    rw (← c.self.view_is)
    (seen-nothing c.self.inside.bytes.items c.self.inside.lent c.self.inside.start
    (taken-nothing c.self.inside.bytes.items c.self.inside.start c.look-self-inside.result c.in-Open.scan
    (rw c.deref.ensures.value at c.look-self-inside.ensures) c.in-Open.is))

pub returns-in-Spoilt-clause-after : goal.returns-in-Spoilt-clause-after
returns-in-Spoilt-clause-after c =
    rw (← c.self.view_is)
    (seen-spoilt c.self.inside.bytes.items c.self.inside.lent c.self.inside.start c.in-Spoilt.fault
    (taken-spoilt c.self.inside.bytes.items c.self.inside.start c.look-self-inside.result c.in-Spoilt.fault
    (rw c.deref.ensures.value at c.look-self-inside.ensures) c.in-Spoilt.is))
