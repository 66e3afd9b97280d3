-- What a header and a chart mean. Assumes nothing.
use Rattle.model.specs.Charts.{EventChart}
use Rattle.charts.specs.Headers.{Sizes}
use Rattle.charts.specs.Sets.{chart_from}
use Rattle.charts.specs.declared.chart.Chart.{Chart}
use Rattle.charts.specs.declared.header.Header.{Header}

abbrev pub header_meaning : Header → Sizes
header_meaning h = record { levels = h.levels; events = h.events }

-- the chart of events that the sets hold
unfoldable pub chart_of : Chart → EventChart
chart_of c = chart_from c.header.levels c.header.events c.sets
