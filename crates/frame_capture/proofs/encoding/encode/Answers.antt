use Rattle.std.proofs.Common.{◌≡◌, ◌∙◌, ◌++◌, ◌+◌, ◌-◌, ◌*◌, ◌/◌, List, ℕ, length, take, drop, ap, sym, refl, arith, suc, rules}
use Rattle.frame_capture.specs.Film.{text_head, text_length}
use Rattle.frame_capture.specs.Capture.{head_of}
use Rattle.frame_capture.specs.Spelling.{frame_of, frames_of}
use Rattle.frame_capture.proofs.Whole.{how-many, whole-texts, captured, frames-more, frames-none, size-is, text-some, one-fits, rest-fits}
use Rattle.frame_capture.proofs.encoding.encode.Goals as goal

pub loop-number-init : goal.loop-number-init
loop-number-init c =
    let size = c.len.result + 3 * (c.from.result * c.from-2.result) in
    let text = c.in_ok-head.head.bytes.items in
    let long : c.len.result ≡ length text = search rules in
    let is : size ≡ text_length c.args.width c.args.height = size-is c.len.result c.args.width c.args.height c.from.result c.from-2.result text long c.in_ok-head.ensures.ok c.from.ensures c.from-2.ensures in
    let whole = whole-texts c.args.width c.args.height size c.args.texts.now c.requires is (text-some c.args.width c.args.height size is) in
    let same : length c.args.texts.now / size - 0 ≡ length c.args.texts.now / size = omega arith in
    rw same (record { room = whole.1; put = refl })

pub split_at-requires : goal.split_at-requires
split_at-requires c = one-fits _ c.loop-number.number _ _ c.loop-number-test.true c.loop-number.invariant.room

pub loop-number-preserved : goal.loop-number-preserved
loop-number-preserved c =
    let size = c.len.result + 3 * (c.from.result * c.from-2.result) in
    let head = c.in_ok-head.head.bytes.items in
    let frames = length c.args.texts.now / size in
    let k = c.loop-number.number in
    let rest = c.loop-number.rest.now in
    let put = c.loop-number.capture.items in
    let long : c.len-in-loop-number.result ≡ length head = search rules in
    let front : c.split_at.result.0.now ≡ take size rest = c.split_at.ensures.front in
    let back : c.split_at.result.1.now ≡ drop size rest = c.split_at.ensures.back in
    let left : length c.split_at.result.1.now + size ≡ length rest = c.split_at.ensures.back_len in
    let one : c.put_frame.new.capture.items ≡ put ++ frame_of k c.len-in-loop-number.result c.split_at.result.0.now = c.in_ok-put_frame.ensures in
    let same : c.put_frame.new.capture.items ≡ put ++ frame_of k (length head) (take size rest) = one ∙ ap (λ (n : ℕ). put ++ frame_of k n c.split_at.result.0.now) long ∙ ap (λ (t : List ℕ). put ++ frame_of k (length head) t) front in
    let more : frames - k ≡ suc (frames - (k + 1)) = omega (arith, c.loop-number-test.true) in
    let so_far = ap (λ (n : ℕ). put ++ frames_of (length head) size k n rest) (sym more) ∙ c.loop-number.invariant.put in
    record {
      room = rest-fits frames k size (length rest) (length c.split_at.result.1.now) c.loop-number-test.true left c.loop-number.invariant.room;
      put = rw (same, back) (frames-more (length head) size k (frames - (k + 1)) rest put _ so_far);
    }

pub returns : goal.returns
returns c = λ ps are.
    let size = c.len.result + 3 * (c.from.result * c.from-2.result) in
    let head = c.in_ok-head.head.bytes.items in
    let frames = length c.args.texts.now / size in
    let k = c.loop-number.number in
    let long : c.len.result ≡ length head = search rules in
    let text : head ≡ text_head c.args.width c.args.height = c.in_ok-head.ensures.ok in
    let is : size ≡ text_length c.args.width c.args.height = size-is c.len.result c.args.width c.args.height c.from.result c.from-2.result head long text c.from.ensures c.from-2.ensures in
    let many = how-many c.args.width c.args.height size c.args.texts.now ps are is (text-some c.args.width c.args.height size is) in
    let none : frames - k ≡ 0 = omega (arith, c.loop-number-test.false) in
    let so_far = ap (λ (n : ℕ). c.loop-number.capture.items ++ frames_of (length head) size k n c.loop-number.rest.now) (sym none) ∙ c.loop-number.invariant.put in
    let begun : c.in_ok-capture.capture.items ≡ head_of c.args.width c.args.height frames = c.in_ok-capture.ensures in
    let whole = frames-none (length head) size k c.loop-number.rest.now c.loop-number.capture.items _ so_far ∙ ap (λ (b : List ℕ). b ++ frames_of (length head) size 0 frames c.args.texts.now) begun in
    captured c.args.width c.args.height (length head) size frames c.args.texts.now c.loop-number.capture.items ps are (ap length text) is many whole
