use Rattle.std.proofs.Common.{sym, refl, ap, ◌∙◌, subst}
use Rattle.host.specs.Names.{NameForm, name_bytes}
use Rattle.host.proofs.Spelled.{name_back, name_form}
use Rattle.table_text.specs.declared.lines.Key.TheVariants.{Kind, Name, Owner, Link, Up, Lo, Hi, Value}
use Rattle.table_text.specs.Lines.{word, value_text}
use Rattle.table_text.proofs.Taken.{took, as_held}
use Rattle.table_text.proofs.reads.take_value.Goals as goal

pub returns-in_err-taken-in-Name : goal.returns-in_err-taken-in-Name
returns-in_err-taken-in-Name c =
    rw c.from_residual-in_err-taken-in-Name.ensures (λ l f e. c.in_err-taken-in-Name.ensures (subst NameForm (sym (e ∙ ap (λ k. value_text k l) c.in-Name.is)) (name_form l.row.name f.row.name).0))

pub returns-in_ok-taken-in-Kind : goal.returns-in_ok-taken-in-Kind
unfolding word
returns-in_ok-taken-in-Kind c =
    let r = c.in_ok-taken-in-Kind.ensures in
    took c.args.line _ Kind c.in-Kind.is (record { rises = c.requires.rises; inside = c.requires.inside; row = record { filled = r.0; kind = r.1; name = c.requires.row.name; owner = c.requires.row.owner; link = c.requires.row.link; up = c.requires.row.up; lo = c.requires.row.lo; hi = c.requires.row.hi; value = c.requires.row.value } }) r.2 refl

pub returns-in_ok-taken-in-Name : goal.returns-in_ok-taken-in-Name
unfolding word
returns-in_ok-taken-in-Name c =
    let r = c.in_ok-taken-in-Name.ensures in
    took c.args.line _ Name c.in-Name.is (record { rises = c.requires.rises; inside = c.requires.inside; row = record { filled = c.requires.row.filled; kind = c.requires.row.kind; name = (c.args.text.now, r.0, r.1); owner = c.requires.row.owner; link = c.requires.row.link; up = c.requires.row.up; lo = c.requires.row.lo; hi = c.requires.row.hi; value = c.requires.row.value } }) (sym (ap name_bytes r.1 ∙ name_back c.args.text.now r.0)) refl

pub returns-in_ok-taken-in-Owner : goal.returns-in_ok-taken-in-Owner
unfolding word
returns-in_ok-taken-in-Owner c =
    let r = c.in_ok-taken-in-Owner.ensures in
    took c.args.line _ Owner c.in-Owner.is (record { rises = c.requires.rises; inside = c.requires.inside; row = record { filled = c.requires.row.filled; kind = c.requires.row.kind; name = c.requires.row.name; owner = r.0; link = c.requires.row.link; up = c.requires.row.up; lo = c.requires.row.lo; hi = c.requires.row.hi; value = c.requires.row.value } }) r.1 refl

pub returns-in_ok-taken-in-Link : goal.returns-in_ok-taken-in-Link
unfolding word
returns-in_ok-taken-in-Link c =
    let r = c.in_ok-taken-in-Link.ensures in
    took c.args.line _ Link c.in-Link.is (record { rises = c.requires.rises; inside = c.requires.inside; row = record { filled = c.requires.row.filled; kind = c.requires.row.kind; name = c.requires.row.name; owner = c.requires.row.owner; link = r.0; up = c.requires.row.up; lo = c.requires.row.lo; hi = c.requires.row.hi; value = c.requires.row.value } }) r.1 refl

pub returns-in_ok-taken-in-Up : goal.returns-in_ok-taken-in-Up
unfolding word
returns-in_ok-taken-in-Up c =
    let r = c.in_ok-taken-in-Up.ensures in
    took c.args.line _ Up c.in-Up.is (record { rises = c.requires.rises; inside = c.requires.inside; row = record { filled = c.requires.row.filled; kind = c.requires.row.kind; name = c.requires.row.name; owner = c.requires.row.owner; link = c.requires.row.link; up = r.1; lo = c.requires.row.lo; hi = c.requires.row.hi; value = c.requires.row.value } }) r.2 refl

pub returns-in_ok-taken-in-Lo : goal.returns-in_ok-taken-in-Lo
unfolding word
returns-in_ok-taken-in-Lo c =
    let r = as_held c.args.text.now c.in_ok-taken-in-Lo.field-0 c.in_ok-taken-in-Lo.ensures in
    took c.args.line _ Lo c.in-Lo.is (record { rises = c.requires.rises; inside = c.requires.inside; row = record { filled = c.requires.row.filled; kind = c.requires.row.kind; name = c.requires.row.name; owner = c.requires.row.owner; link = c.requires.row.link; up = c.requires.row.up; lo = (r.0, r.1); hi = c.requires.row.hi; value = c.requires.row.value } }) r.2 refl

pub returns-in_ok-taken-in-Hi : goal.returns-in_ok-taken-in-Hi
unfolding word
returns-in_ok-taken-in-Hi c =
    let r = as_held c.args.text.now c.in_ok-taken-in-Hi.field-0 c.in_ok-taken-in-Hi.ensures in
    took c.args.line _ Hi c.in-Hi.is (record { rises = c.requires.rises; inside = c.requires.inside; row = record { filled = c.requires.row.filled; kind = c.requires.row.kind; name = c.requires.row.name; owner = c.requires.row.owner; link = c.requires.row.link; up = c.requires.row.up; lo = c.requires.row.lo; hi = (r.0, r.1); value = c.requires.row.value } }) r.2 refl

pub returns-in_ok-taken-in-Value : goal.returns-in_ok-taken-in-Value
unfolding word
returns-in_ok-taken-in-Value c =
    let r = as_held c.args.text.now c.in_ok-taken-in-Value.field-0 c.in_ok-taken-in-Value.ensures in
    took c.args.line _ Value c.in-Value.is (record { rises = c.requires.rises; inside = c.requires.inside; row = record { filled = c.requires.row.filled; kind = c.requires.row.kind; name = c.requires.row.name; owner = c.requires.row.owner; link = c.requires.row.link; up = c.requires.row.up; lo = c.requires.row.lo; hi = c.requires.row.hi; value = (r.0, r.1) } }) r.2 refl
