use Rattle.std.proofs.Common.{◌≡◌, ℕ, ◌+◌, ◌-◌, ◌≤◌, List, ◌++◌, length, take, sym, ap, ◌∙◌, arith, append_assoc, length-take-le}
use Rattle.std.specs.Prelude.{None, Some}
use Rattle.std.specs.declared.option.Option.{Option}
use Rattle.std.specs.Io.KnownBytes.{Consumes}
use Rattle.std.proofs.lemmas.List.{take-append-le}
use Rattle.std.proofs.Math.Seq.{take-append-add}
use borrow.Rule.Slice.PartMut.{put_mid, post_of, same_len_mid}
use Rattle.answer.proofs.read_start.Goals as goal

-- what two reads consumed one after the other
consumes_more : (p q r : Option (List ℕ)) (a b : List ℕ) → Consumes p q a → Consumes q r b → Consumes p r (a ++ b)
consumes_more None q r a b x y = tt
consumes_more (Some p) None r a b x y = absurd x
consumes_more (Some p) (Some q) None a b x y = absurd y
consumes_more (Some p) (Some q) (Some r) a b x y = x ∙ ap (λ (t : List ℕ). a ++ t) y ∙ sym (append_assoc a b r)

-- the first bytes of a buffer once a part was read behind the first n
take_read : (n more k : ℕ) (l part : List ℕ) → n ≤ length l → more ≤ length part → take (n + more) (put_mid n k l part) ≡ take n l ++ take more part
take_read n more k l part s m =
    ap (λ (i : ℕ). take (i + more) (put_mid n k l part)) (sym (length-take-le n l s))
    ∙ take-append-add (take n l) (part ++ post_of n k l) more
    ∙ ap (λ (t : List ℕ). take n l ++ t) (take-append-le more part (post_of n k l) m)

pub loop-n-preserved : goal.loop-n-preserved
loop-n-preserved g c =
    let l = c.loop-n in
    let part = c.read.new.buf in
    let more = c.in_ok-more.more in
    let own : length (put_mid l.n (3614 - l.n) l.buffer part) ≡ length l.buffer = same_len_mid l.n (3614 - l.n) l.buffer part c.read.auto.buf in
    let fit : more ≤ length part = c.in_ok-more.ensures.bound.0 in
    record {
      within = omega arith;
      room = omega arith;
      read =
          rw (take_read l.n more (3614 - l.n) l.buffer part (omega arith) fit)
          (consumes_more _ _ _ (take l.n l.buffer) (take more part) l.invariant.read c.in_ok-more.ensures.bytes.0);
    }
