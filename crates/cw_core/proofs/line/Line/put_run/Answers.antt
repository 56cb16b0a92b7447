use Rattle.std.proofs.Common.{◌≡◌, ◌++◌, arith, ◌∙◌, refl}
use Rattle.std.specs.Fmt.{decimal}
use Rattle.cw_core.proofs.RunTexts.{after_first, after_prefix, lone_put, long_put, between}
use Rattle.cw_core.proofs.line.Line.put_run.Goals as goal

pub put_text-requires : goal.put_text-requires
put_text-requires c =
    let first : c.put_number.new.self ≡ (c.args.self.now ++ between c.args.self.now) ++ decimal c.args.least = c.put_number.ensures.text ∙ rw (c.put_plus.ensures.text, c.from.ensures) refl in
    let left = after_first c.args.self.now c.put_number.new.self c.args.least first (omega (arith, c.requires.up, c.requires.below)) c.requires.room in
    record { room = omega (arith, left) }

pub put_number-requires-then-least-greatest : goal.put_number-requires-then-least-greatest
put_number-requires-then-least-greatest c =
    let first : c.put_number.new.self ≡ (c.args.self.now ++ between c.args.self.now) ++ decimal c.args.least = c.put_number.ensures.text ∙ rw (c.put_plus.ensures.text, c.from.ensures) refl in
    let left = after_first c.args.self.now c.put_number.new.self c.args.least first (omega (arith, c.requires.up, c.requires.below)) c.requires.room in
    record { room = after_prefix c.put_number.new.self c.put_text.new.self c.put_text.ensures.text left }

pub returns-then-least-greatest : goal.returns-then-least-greatest
returns-then-least-greatest c =
    let first : c.put_number.new.self ≡ (c.args.self.now ++ between c.args.self.now) ++ decimal c.args.least = c.put_number.ensures.text ∙ rw (c.put_plus.ensures.text, c.from.ensures) refl in
    let last : c.put_number-then-least-greatest.new.self ≡ c.put_text.new.self ++ decimal c.args.greatest = c.put_number-then-least-greatest.ensures.text ∙ rw c.from-then-least-greatest.ensures refl in
    record { text = long_put c.args.self.now c.put_number.new.self c.put_text.new.self c.put_number-then-least-greatest.new.self c.args.least c.args.greatest first c.put_text.ensures.text last (λ e. omega (arith, e, c.if-least-greatest.true)) }

pub returns-else-least-greatest : goal.returns-else-least-greatest
returns-else-least-greatest c =
    let first : c.put_number.new.self ≡ (c.args.self.now ++ between c.args.self.now) ++ decimal c.args.least = c.put_number.ensures.text ∙ rw (c.put_plus.ensures.text, c.from.ensures) refl in
    record { text = lone_put c.args.self.now c.put_number.new.self c.args.least c.args.greatest first (omega (arith, c.requires.up, c.if-least-greatest.false)) }
