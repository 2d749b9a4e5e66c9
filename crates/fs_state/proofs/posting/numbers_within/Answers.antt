use Rattle.std.proofs.Common.{◌≡◌, ◌+◌, ◌<◌, ◌≤◌, ◌++◌, ◌∷◌, [], length, get_or, true, false, ap, sym, ◌∙◌, arith}
use Rattle.std.specs.Prelude.{slice_set}
use Rattle.fs_state.specs.declared.outbox.Waiting.TheVariants as waiting
use Rattle.fs_state.specs.declared.post.Post.{Post}
use Rattle.fs_state.specs.Posted.{unread}
use Rattle.fs_state.specs.Posting.{is_taken}
use Rattle.fs_state.proofs.ListLemmas.{set_itself, item_same, raised_same, raised_next}
use Rattle.fs_state.proofs.PostLemmas.{number_taken, number_lost, number_unwanted}
use Rattle.fs_state.proofs.posting.numbers_within.Goals as goal
use Rattle.fs_state.proofs.posting.numbers_within.Goals.{then-len-room+then-has+in_ok-push+in_ok-post, else-len-room}
use Rattle.fs_state.proofs.posting.numbers_within.Goals.{else-len-room-via-then-len-room+else-has, else-len-room-via-else-len-room}

pub loop-post-preserved : goal.loop-post-preserved
loop-post-preserved c =
    let seat = c.args.seat in
    let told = c.args.posts.now in
    let posts = c.loop-post.posts in
    let room = c.args.room in
    let list = c.loop-post.waiting in
    let i = c.loop-post.post-index in
    let item = c.post-item.result in
    let held = c.loop-post.invariant in
    let within : i < length told = c.loop-post-test.true in
    let here : i < length posts = omega (arith, within, c.loop-post.auto.posts) in
    let like : unread item ≡ unread (get_or told i item) = item_same posts told i item held.same c.post-item.is in
    let takes : is_taken seat item ≡ is_taken seat (get_or told i item) = ap (is_taken seat) like in
    let taken : is_taken seat item ≡ is_taken seat (get_or posts i item) = ap (is_taken seat) c.post-item.is in
    elim c.if-len-room.branch [
      | then-len-room+then-has+in_ok-push+in_ok-post w ↦
          let more : Post = record item { readers = w.in_ok-post.field-0 } in
          let raised : more ≡ record item { readers = item.readers + 1 } =
          ap (λ readers. let p : Post = record item { readers = readers } in p)
          (w.in_ok-post.ensures ∙ ap (λ (p : Post). p.readers + 1) (sym c.post-item.is)) in
          let left : length list < room = omega (arith, w.if-len-room.true, c.len.ensures) in
          let wanted : is_taken seat (get_or told i item) ≡ true = sym takes ∙ taken ∙ sym w.has.ensures ∙ w.if-has.true in
          let pushed : c.if-len-room.waiting ≡ list ++ waiting.Event item.number ∷ [] =
          w.waiting-is ∙ w.in_ok-push.ensures.ok ∙ ap (λ (p : Post). list ++ waiting.Event p.number ∷ []) (sym c.post-item.is) in
          let put : c.if-len-room.posts ≡ slice_set posts i more =
          w.posts-is ∙ ap (λ (p : Post). slice_set posts i (record p { readers = w.in_ok-post.field-0 })) (sym c.post-item.is) in
          rw (pushed, put) (record {
            same = raised_same posts i item more c.post-item.is raised ∙ held.same;
            numbers = ap (λ (p : Post). list ++ waiting.Event p.number ∷ []) like
                ∙ number_taken room i seat told list item within held.numbers left wanted;
            readers = raised_next told posts list i item more c.requires here held.same c.post-item.is raised held.readers;
          })
      | else-len-room w ↦
          elim w.else-len-room.branch [
            | else-len-room-via-then-len-room+else-has u ↦
                let unwanted : is_taken seat (get_or told i item) ≡ false = sym takes ∙ taken ∙ sym u.has.ensures ∙ u.if-has.false in
                rw (w.waiting-is, w.posts-is, u.posts-is, set_itself posts i item) (record {
                  same = held.same;
                  numbers = number_unwanted room i seat told list item within held.numbers unwanted;
                  readers = held.readers;
                })
            | else-len-room-via-else-len-room u ↦
                let full : room ≤ length list = omega (arith, u.if-len-room.false, c.len.ensures) in
                rw (w.waiting-is, w.posts-is, u.posts-is, set_itself posts i item) (record {
                  same = held.same;
                  numbers = number_lost room i seat told list item within held.numbers full;
                  readers = held.readers;
                })
          ]
    ]
