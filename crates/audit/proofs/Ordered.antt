-- The rows of every call stand in the table's order.
use Rattle.std.proofs.Common.{lit<}
use Rattle.book.specs.Calls.{Call, opens, starts, posts, posts_day, bills, trues_up, finalises, asks, whether_due, line_total}
use Rattle.book.specs.Table.{IsInOrder, rows}
use Rattle.book.specs.Views.{View}
use Rattle.tariff.specs.Pricing.{Meaning}

pub in_order : (meaning : Meaning) (call : Call) (v : View) → IsInOrder (rows meaning call v)
in_order meaning (opens code contract substation carried) v = (lit< tt, tt)
in_order meaning (starts days) v = (lit< tt, (lit< tt, tt))
in_order meaning (posts m place post) v = (lit< tt, (lit< tt, (lit< tt, (lit< tt, tt))))
in_order meaning (posts_day m day code readings) v = (lit< tt, (lit< tt, (lit< tt, (lit< tt, (lit< tt, tt)))))
in_order meaning (bills m) v = (lit< tt, (lit< tt, (lit< tt, (lit< tt, (lit< tt, (lit< tt, tt))))))
in_order meaning (trues_up m) v = (lit< tt, (lit< tt, (lit< tt, (lit< tt, (lit< tt, tt)))))
in_order meaning (finalises m) v = (lit< tt, (lit< tt, (lit< tt, (lit< tt, (lit< tt, (lit< tt, tt))))))
in_order meaning (asks (whether_due m)) v = (lit< tt, (lit< tt, (lit< tt, tt)))
in_order meaning (asks (line_total m line)) v = (lit< tt, (lit< tt, (lit< tt, tt)))
