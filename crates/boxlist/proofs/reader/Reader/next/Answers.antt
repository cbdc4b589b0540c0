-- What is passed is a record and the byte that ends its line.
use Rattle.std.proofs.Common.{◌≡◌, ◌-◌, ◌≤◌, length, take, drop, arith, length-drop}
use Rattle.std.proofs.lemmas.List.{take_all}
use Rattle.std.proofs.lemmas.Bool.{false≢true}
use Rattle.boxlist.specs.declared.reader.Reader.{Reader}
use Rattle.boxlist.proofs.Lines.{line_is, line_far}
use Rattle.boxlist.proofs.reader.Reader.next.Goals as goal

to_end : (r : Reader) → take (length r.text.now - r.pos) (drop r.pos r.text.now) ≡ drop r.pos r.text.now
to_end r = take_all _ (drop r.pos r.text.now) (simp length-drop (omega arith))

pub returns-clause-answers : goal.returns-clause-answers
returns-clause-answers c =
    let h = rw c.in_ok-record.ensures.ok_part at c.line.ensures.reads in
    (h.0, line_is _ _ (to_end c.args.self.now) _ h.0 h.1)

pub returns-clause-pos : goal.returns-clause-pos
returns-clause-pos c =
    let h = rw c.in_ok-record.ensures.ok_part at c.line.ensures.reads in
    let within : length c.args.self.now.text.now ≤ c.args.self.now.pos → ⊥ = λ h. false≢true (c.if-ended.ensures.1 h) in
    omega (arith, within, c.pass.ensures.pos, simp length-drop at (line_far _ _ (to_end c.args.self.now) _ h.0 h.1))
