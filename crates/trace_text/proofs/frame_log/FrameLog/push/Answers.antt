use Rattle.std.proofs.Common.{◌≡◌, ◌++◌, ◌∷◌, [], ◌∙◌, ap, sym, subst, length, List, false, true, refl, arith, inl, inr}
use Rattle.std.proofs.lemmas.Result.{err_from_is_err_and}
use Rattle.std.specs.Prelude.{is_ok}
use Rattle.trace_text.specs.declared.frame_log.Entry.{Entry}
use Rattle.trace_text.specs.FrameEntries.{AllWithin, frames_in}
use Rattle.trace_text.specs.FrameLogs.{Adds, byte_count}
use Rattle.trace_text.specs.Lent.{lent_fate}
use Rattle.trace_text.proofs.LogLaws.{Behind, count-in, length-frames_in, log-adds, log-within}
use Rattle.trace_text.proofs.frame_log.FrameLog.push.Goals as goal

pub returns-in_err-reserve-clause-full : goal.returns-in_err-reserve-clause-full
returns-in_err-reserve-clause-full c =
    let entries = c.self.inside.entries in
    let view = c.self.view_is in
    let p = err_from_is_err_and c.from_residual.result c.from_residual.ensures.1 in
    rw p.1 (inl (omega (
      arith,
      entries.ok.0,
      length-frames_in c.self.inside.bytes.items 1 entries.items,
      ap (λ v. length v.items) view,
      ap (λ v. v.room) view,
      c.in_err-reserve.ensures.full,
    )))

pub invariant_of-self-2 : goal.invariant_of-self-2
invariant_of-self-2 c =
    let entries = c.self.inside.entries in
    let bytes = c.self.inside.bytes in
    let ok : is_ok c.push.result ≡ true = c.push.ensures.succeeds (omega (arith, c.in_ok-reserve.ensures.ok)) in
    let entry : Entry = record {
      from = c.args.from;
      kind = c.args.fate.kind;
      came = false;
      start = c.len-start.result;
      middle = c.len-middle.result;
      end = c.len-end.result;
    } in
    let later : c.push.new.self.items ≡ entries.items ++ entry ∷ [] =
    (rw ok at c.push.ensures.items) ∙ ap (λ (es : List Entry). es ++ entry ∷ []) c.in_ok-reserve.ensures.items in
    let behind : Behind bytes.items c.args.fate.bytes.now c.args.bytes.now entry = record {
      start_is = omega (arith, c.len-start.ensures, c.in_ok-reserve-2.ensures.len, bytes.ok.0);
      middle_is = omega (arith, c.len-middle.ensures, c.append.ensures.len, c.in_ok-reserve-2.ensures.len, bytes.ok.0);
      end_is = omega (arith, c.len-end.ensures, c.append-2.ensures.len, c.append.ensures.len, c.in_ok-reserve-2.ensures.len, bytes.ok.0);
      came_is = refl;
    } in
    let within : AllWithin 0 entries.items (length bytes.items) = subst (AllWithin 0 entries.items) bytes.ok.0 c.self.invariant in
    rw later (log-within entries.items c.append-2.new.bytes.len behind within c.args.fate.short c.args.fate.fits c.requires
    (omega (arith, c.append-2.ensures.len, c.append.ensures.len, c.in_ok-reserve-2.ensures.len, bytes.ok.0)))

pub returns-clause-ok : goal.returns-clause-ok
returns-clause-ok c =
    let entries = c.self.inside.entries in
    let bytes = c.self.inside.bytes in
    let ok : is_ok c.push.result ≡ true = c.push.ensures.succeeds (omega (arith, c.in_ok-reserve.ensures.ok)) in
    let entry : Entry = record {
      from = c.args.from;
      kind = c.args.fate.kind;
      came = false;
      start = c.len-start.result;
      middle = c.len-middle.result;
      end = c.len-end.result;
    } in
    let later : c.push.new.self.items ≡ entries.items ++ entry ∷ [] =
    (rw ok at c.push.ensures.items) ∙ ap (λ (es : List Entry). es ++ entry ∷ []) c.in_ok-reserve.ensures.items in
    let behind : Behind bytes.items c.args.fate.bytes.now c.args.bytes.now entry = record {
      start_is = omega (arith, c.len-start.ensures, c.in_ok-reserve-2.ensures.len, bytes.ok.0);
      middle_is = omega (arith, c.len-middle.ensures, c.append.ensures.len, c.in_ok-reserve-2.ensures.len, bytes.ok.0);
      end_is = omega (arith, c.len-end.ensures, c.append-2.ensures.len, c.append.ensures.len, c.in_ok-reserve-2.ensures.len, bytes.ok.0);
      came_is = refl;
    } in
    let within : AllWithin 0 entries.items (length bytes.items) = subst (AllWithin 0 entries.items) bytes.ok.0 c.self.invariant in
    let all : c.append-2.new.bytes.items ≡ bytes.items ++ c.args.fate.bytes.now ++ c.args.bytes.now = c.append-2.ensures.items
    ∙ ap (λ b. b ++ c.args.bytes.now) (c.append.ensures.items ∙ ap (λ b. b ++ c.args.fate.bytes.now) c.in_ok-reserve-2.ensures.items) in
    rw (all, later) (subst (λ fs. Adds c.args.from (lent_fate c.args.fate) c.args.bytes.now fs
    (frames_in (bytes.items ++ c.args.fate.bytes.now ++ c.args.bytes.now) 1 (entries.items ++ entry ∷ []))) (ap (λ v. v.items) c.self.view_is)
    (log-adds entries.items behind within))

pub returns-in_err-reserve-2-clause-full : goal.returns-in_err-reserve-2-clause-full
returns-in_err-reserve-2-clause-full c =
    let entries = c.self.inside.entries in
    let bytes = c.self.inside.bytes in
    let view = c.self.view_is in
    let within : AllWithin 0 entries.items (length bytes.items) = subst (AllWithin 0 entries.items) bytes.ok.0 c.self.invariant in
    let count : byte_count c.args.self.now.items ≡ bytes.len =
    ap byte_count (sym (ap (λ v. v.items) view)) ∙ omega (arith, count-in bytes.items 1 0 entries.items within, bytes.ok.0) in
    let p = err_from_is_err_and c.from_residual-in_err-reserve-2.result c.from_residual-in_err-reserve-2.ensures.1 in
    rw p.1 (inr (omega (arith, count, ap (λ v. v.byte_room) view, c.in_err-reserve-2.ensures.full, c.args.fate.short, c.requires)))
