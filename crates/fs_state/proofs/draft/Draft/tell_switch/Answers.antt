use Rattle.fs_state.proofs.draft.Draft.tell_switch.Goals as goal

pub returns : goal.returns
returns g c =
    rw (
      c.in_ok-put-2.ensures,
      c.in_ok-put.ensures,
      c.switch_uuid.ensures,
      c.as_bytes.ensures.value,
      c.format.ensures.text,
      c.as_bytes-2.ensures.value,
      c.format-2.ensures.text,
      c.moment.ensures,
    ) at c.put-3.ensures
