use Rattle.std.proofs.Common.{◌≡◌, ◌≤◌, ◌<◌, ◌-◌, length, min, arith}
use Rattle.script_lines.proofs.Feeds.{rest, clear_more, length-rest, all_clear, feed_there}
use Rattle.script_lines.proofs.window.look.Goals as goal

pub returns-in-Some : goal.returns-in-Some
returns-in-Some c =
    let bytes = c.args.bytes.now in
    let clear = c.args.clear in
    let counted = c.min-counted.result in
    let k = c.in-Some.k in
    let most : counted ≡ min (length bytes) c.args.allowed = c.min-counted.ensures in
    let inside : counted ≤ length bytes = omega arith in
    let size : length (rest bytes clear counted) ≡ counted - clear = length-rest bytes clear counted inside in
    let found = c.in-Some.ensures in
    let lt : k < length (rest bytes clear counted) = found.0 in
    (omega arith, omega arith, clear_more bytes clear counted k (omega arith) c.requires.searched found.1, feed_there bytes clear counted k inside lt found.2)

pub returns-then-bytes-counted : goal.returns-then-bytes-counted
returns-then-bytes-counted c =
    let bytes = c.args.bytes.now in
    let counted = c.min-counted.result in
    let most : counted ≡ min (length bytes) c.args.allowed = c.min-counted.ensures in
    (all_clear bytes c.args.clear counted c.args.allowed (omega arith) (omega arith) (omega arith) c.requires.searched c.in_default.ensures, omega arith)

pub returns-then-bytes-gt-LINE_MOST : goal.returns-then-bytes-gt-LINE_MOST
returns-then-bytes-gt-LINE_MOST c =
    let bytes = c.args.bytes.now in
    let counted = c.min-counted.result in
    let most : counted ≡ min (length bytes) c.args.allowed = c.min-counted.ensures in
    (all_clear bytes c.args.clear counted (length bytes) (omega arith) (omega arith) (omega arith) c.requires.searched c.in_default.ensures, omega arith, omega arith)

pub returns : goal.returns
returns c =
    let bytes = c.args.bytes.now in
    let counted = c.min-counted.result in
    let most : counted ≡ min (length bytes) c.args.allowed = c.min-counted.ensures in
    (all_clear bytes c.args.clear counted (length bytes) (omega arith) (omega arith) (omega arith) c.requires.searched c.in_default.ensures, omega arith, omega arith)
