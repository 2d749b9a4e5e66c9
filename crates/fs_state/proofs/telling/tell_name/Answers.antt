use Rattle.fs_state.proofs.telling.tell_name.Goals as goal

pub returns : goal.returns
returns g c = rw (c.in_ok-put.ensures, c.as_bytes.ensures.value, c.name.ensures) at c.give.ensures
