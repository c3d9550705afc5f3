use Rattle.std.proofs.Common.{◌≡◌, ◌<◌, length, map, sym, ap, ◌∙◌, subst, arith, refl}
use Rattle.std.proofs.Math.Seq.{map-set_same}
use Rattle.std.proofs.lemmas.List.{map-set, length-map}
use Rattle.lrc_code.specs.Codes.{data_count}
use Rattle.lrc_field.specs.Stripes.{data_of, in_parity, sum_of}
use Rattle.lrc_coder.specs.Buffers.{read, written_buffers, bytes_at}
use Rattle.lrc_coder.proofs.StripeLemmas.{counted_data, data_long, target_long, written_at, filled_more, stripe_of}
use Rattle.lrc_coder.proofs.coding.encode.Goals as goal

pub put_parity-requires-clause-long : goal.put_parity-requires-clause-long
put_parity-requires-clause-long c = λ f low.
    let ds = read c.args.data_fragments.now in
    let old = c.args.parities.now in
    let ps = c.loop-number.parities in
    let even = c.in_ok-check_lengths.ensures.even in
    let count = c.if-data_fragments-fragments.false in
    let value = c.fragments.ensures.value in
    let is : length ds ≡ data_count c.args.code = length-map c.args.data_fragments.now (λ b. b.now) ∙ counted_data c.args.code _ (omega (arith, count, value)) in
    let four = c.if-parities-ne-PARITIES.false in
    let long = c.loop-number.auto.parities in
    let below = c.loop-number-test.true in
    data_long c.args.code ds (written_buffers old) is even f low
    ∙ sym (target_long c.args.code ds old ps is even c.loop-number.invariant.lengths long c.loop-number.number _ below (omega (arith, below, four, long)))

pub loop-number-preserved : goal.loop-number-preserved
loop-number-preserved c =
    let code = c.args.code in
    let ds = read c.args.data_fragments.now in
    let old = c.args.parities.now in
    let ps = c.loop-number.parities in
    let n = c.loop-number.number in
    let is = c.loop-number.invariant in
    let y = c.put_parity.new.parity in
    let put = c.put_parity.ensures in
    let count = c.if-data_fragments-fragments.false in
    let value = c.fragments.ensures.value in
    let data_is : length ds ≡ data_count code = length-map c.args.data_fragments.now (λ b. b.now) ∙ counted_data code _ (omega (arith, count, value)) in
    let four = c.if-parities-ne-PARITIES.false in
    let long = c.loop-number.auto.parities in
    let below = c.loop-number-test.true in
    let inside : n < length ps = omega (arith, below, four, long) in
    let lengths = length-map ps (λ b. b.now) in
    let inside_written : n < length (written_buffers ps) = omega (arith, inside, lengths) in
    let w_is = map-set (λ b. b.now) ps n _ in
    record {
      places = map-set_same (λ b. (b.ref_ptr, b.ghost_name)) ps n _ _ refl ∙ is.places;
      lengths = ap (λ ws. map length ws) w_is ∙ map-set_same (λ b. length b) (written_buffers ps) n y _ (put.long ∙ ap (λ b. length b) (sym (written_at ps n _ inside))) ∙ is.lengths;
      bytes = λ j i low. subst (λ ws. bytes_at ws i j < 256) (sym w_is) (filled_more (written_buffers ps) n i y (λ k x. x < 256) inside_written (put.bytes i) (λ k under. is.bytes k i under) j low);
      done = λ j low i within. subst (λ ws. bytes_at ws i j ≡ sum_of (in_parity code j) (bytes_at ds i) (data_of code)) (sym w_is)
          (filled_more (written_buffers ps) n i y (λ k x. x ≡ sum_of (in_parity code k) (bytes_at ds i) (data_of code)) inside_written
          (put.sums i (subst (λ k. i < k) (sym (target_long code ds old ps data_is c.in_ok-check_lengths.ensures.even is.lengths long n _ below inside)) within))
          (λ k under. is.done k under i within) j low);
    }

pub returns-clause-encoded : goal.returns-clause-encoded
returns-clause-encoded c =
    let code = c.args.code in
    let ps = c.loop-number.parities in
    let is = c.loop-number.invariant in
    let count = c.if-data_fragments-fragments.false in
    let value = c.fragments.ensures.value in
    let four = c.if-parities-ne-PARITIES.false in
    let long = c.loop-number.auto.parities in
    let past = c.loop-number-test.false in
    let ds_long = length-map c.args.data_fragments.now (λ b. b.now) in
    let ws_long = length-map ps (λ b. b.now) in
    let is_data = ds_long ∙ counted_data code _ (omega (arith, count, value)) in
    let old_long = length-map c.args.parities.now (λ b. b.now) in
    record {
      counted = (is_data, omega (arith, old_long, four));
      even = c.in_ok-check_lengths.ensures.even;
      stripe = λ i within.
          stripe_of code (read c.args.data_fragments.now) (written_buffers ps) i is_data (omega (arith, ws_long, long, four))
          (λ f low. c.in_ok-check_lengths.ensures.bytes f i (omega (arith, low, ds_long)))
          (λ j low. is.bytes j i (omega (arith, low, past)))
          (λ j low. is.done j (omega (arith, low, past)) i within);
    }
